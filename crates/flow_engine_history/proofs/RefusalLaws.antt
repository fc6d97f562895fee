-- An image that is refused holds no run, and it is refused in one way.
use Rattle.std.proofs.Common.{◌≡◌, ◌≢◌, ◌⊎◌, inl, inr, ℕ, zero, suc, ◌+◌, ◌<◌, ◌≤◌, List, [], ◌∷◌, ◌++◌, length, Option, Some, None, slice_get, refl, sym, subst, ap, ap₂, ◌∙◌, arith}
use Rattle.std.specs.Prelude.{count_by}
use Rattle.std.specs.List.{AllByRecursion}
use Rattle.std.proofs.lemmas.List.{append-nil}
use Rattle.std.proofs.lemmas.Option.{none-some}
use Rattle.run_journal.specs.Layout.{front}
use Rattle.run_journal.proofs.LayoutLaws.{no_list_where_damaged, one_list}
use Rattle.run_journal.proofs.PlaceLaws.{one_place}
use Rattle.run_records.specs.Layout.{layout}
use Rattle.run_records.specs.Ranges.{InRange, last_moment}
use Rattle.run_records.specs.Reading.{record_of}
use Rattle.run_records.specs.declared.record.Record.{Record}
use Rattle.run_records.specs.declared.record.Record.TheVariants as entry
use Rattle.run_records.proofs.ReadLemmas.{record_again}
use Rattle.flow_core_rules.specs.Changes.{change}
use Rattle.flow_core_rules.specs.Edits.{Edit}
use Rattle.flow_core_rules.specs.Givens.{Given}
use Rattle.flow_core_rules.specs.Laws.{HasPlacedWrites, IsShownAlone}
use Rattle.flow_core_rules.specs.Runs.{GoesOn, Leads, Next, begin_of}
use Rattle.flow_core_rules.specs.State.{Shown, State, shown}
use Rattle.flow_core_rules.proofs.PlacedLemmas.{records_shown}
use Rattle.flow_core_rules.proofs.RunLemmas.{list_heads, run_one, some_inner}
use Rattle.flow_core.specs.Views.{is_makes, most_tasks}
use Rattle.flow_core.specs.declared.flow_errors.LimitKind.{LimitKind}
use Rattle.flow_core.specs.declared.flow_errors.LimitKind.TheVariants as limit
use Rattle.flow_core.proofs.FrontLemmas.{Halves, halves, next_tasks, tasks_on}
use Rattle.flow_core.proofs.ReachedLemmas.{leads_placed}
use Rattle.flow_engine_history.specs.Books.{DiffersAt, IsFirstOther}
use Rattle.flow_engine_history.specs.HistoryView.{entries_of}
use Rattle.flow_engine_history.specs.Histories.{IsShownAfter, IsSoFar}
use Rattle.flow_engine_history.specs.Laws.{NoRunWhereRefused, OneRefusal}
use Rattle.flow_engine_history.specs.Openings.{BeginsWith, BreaksOff, GoesOnWith, Overgrows, RefusesEntries, first_gate}
use Rattle.flow_engine_history.specs.declared.error.EngineError.{EngineError}
use Rattle.flow_engine_history.specs.declared.error.EngineError.TheVariants as refused

-- ---- the records of a run, cut in two

same_record : (a b : Record) → InRange a → InRange b → layout a ≡ layout b → a ≡ b
same_record a b p q e = some_inner a b (sym (record_again a p) ∙ ap record_of e ∙ record_again b q)

-- the record of an entry, with those before it and behind it
record Split (records before : List Record) (item : List ℕ) : Type 0 where
  r : Record
  back : List Record
  is : records ≡ before ++ r ∷ back
  reads : record_of item ≡ Some r

split : (records before : List Record) (item : List ℕ) (rest : List (List ℕ)) → AllByRecursion InRange records → AllByRecursion InRange before
    → entries_of records ≡ entries_of before ++ item ∷ rest → Split records before item
split [] [] item rest p q e = absurd (cc)
split [] (b ∷ before) item rest p q e = absurd (cc)
split (a ∷ records) [] item rest p q e =
    record { r = a; back = records; is = refl; reads = ap record_of (sym (list_heads (layout a) item (entries_of records) rest e).0) ∙ record_again a p.0 }
split (a ∷ records) (b ∷ before) item rest p q e =
    let parts = list_heads (layout a) (layout b) (entries_of records) (entries_of before ++ item ∷ rest) e in
    let inner = split records before item rest p.1 q.1 parts.1 in
    record {
      r = inner.r;
      back = inner.back;
      is = ap₂ (λ (x : Record) (l : List Record). x ∷ l) (same_record a b p.0 q.0 parts.0) inner.is;
      reads = inner.reads;
    }

-- ---- a longer run of the same entries

-- the entry's record comes next in the longer run
record NextIn (before : Shown) (item : List ℕ) (seen : Shown) : Type 0 where
  r : Record
  edits : List Edit
  reads : record_of item ≡ Some r
  takes : change before r ≡ Some edits
  tasks : length before.lists.tasks + count_by is_makes edits ≤ length seen.lists.tasks

next_on : (before seen : Shown) (item : List ℕ) (a mid b new : State) (r : Record) (back : List Record) → HasPlacedWrites mid → before ≡ shown a → mid ≡ a → seen ≡ shown new
    → Next mid r b → GoesOn b back new → record_of item ≡ Some r → NextIn before item seen
next_on before seen item a mid b new r back placed is same now n g reads =
    let alone : IsShownAlone mid r b = records_shown mid b r placed n in
    let one : length b.tasks ≡ length mid.tasks + count_by is_makes n.edits = next_tasks mid b r placed n in
    let rest : length b.tasks ≤ length new.tasks = tasks_on back b new alone.placed g in
    let here : before ≡ shown mid = is ∙ ap shown (sym same) in
    let old : length before.lists.tasks ≡ length mid.tasks = ap (λ (x : Shown). length x.lists.tasks) here in
    let end : length seen.lists.tasks ≡ length new.tasks = ap (λ (x : Shown). length x.lists.tasks) now in
    record {
      r = r;
      edits = n.edits;
      reads = reads;
      takes = subst (λ (x : Shown). change x r ≡ Some n.edits) (sym here) n.change_is;
      tasks = omega (arith, one, rest, old, end);
    }

next_in : (given : Given) (run : ℕ) (records before : List Record) (seen earlier : Shown) (item : List ℕ) (rest : List (List ℕ)) → AllByRecursion InRange records → AllByRecursion InRange before
    → IsShownAfter given run records seen → IsShownAfter given run before earlier → entries_of records ≡ entries_of before ++ item ∷ rest → NextIn earlier item seen
next_in given run records before seen earlier item rest p q long short e =
    let s = split records before item rest p q e in
    let l : Leads given run records long.state = long.leads in
    let k : Leads given run before short.state = short.leads in
    let whole : begin_of given run l.now ∷ l.others ≡ begin_of given run k.now ∷ (k.others ++ s.r ∷ s.back) =
    sym l.records_are ∙ s.is ∙ ap (λ (x : List Record). x ++ s.r ∷ s.back) k.records_are in
    let parts = list_heads (begin_of given run l.now) (begin_of given run k.now) l.others (k.others ++ s.r ∷ s.back) whole in
    let c : Halves l.first k.others (s.r ∷ s.back) long.state = halves k.others (s.r ∷ s.back) l.first long.state (subst (λ (x : List Record). GoesOn l.first x long.state) parts.1 l.goes_on) in
    let there : Leads given run before c.mid = record {
      now = l.now;
      others = k.others;
      first = l.first;
      in_time = l.in_time;
      records_are = k.records_are ∙ ap (λ (x : Record). x ∷ k.others) (sym parts.0);
      begins = l.begins;
      goes_on = c.first;
    } in
    let g = c.rest in
    next_on earlier seen item short.state c.mid g.0 long.state s.r s.back (leads_placed given run before c.mid there) short.is (run_one given run before c.mid short.state there k) long.is g.1 g.2 s.reads

-- an entry whose record may not come next
not_next : (before seen : Shown) (item : List ℕ) → ((r : Record) → record_of item ≡ Some r → change before r ≡ None) → NextIn before item seen → ⊥
not_next before seen item bad n = none-some n.edits (sym (bad n.r n.reads) ∙ n.takes)

-- and one that makes too many tasks
not_many : (before seen : Shown) (item : List ℕ) (r : Record) (edits : List Edit) → record_of item ≡ Some r → change before r ≡ Some edits
    → most_tasks < length before.lists.tasks + count_by is_makes edits → length seen.lists.tasks ≤ most_tasks → NextIn before item seen → ⊥
not_many before seen item r edits reads takes many few n =
    let one : n.r ≡ r = some_inner n.r r (sym n.reads ∙ reads) in
    let same : n.edits ≡ edits = some_inner n.edits edits (sym n.takes ∙ ap (change before) one ∙ takes) in
    let count : count_by is_makes n.edits ≡ count_by is_makes edits = ap (count_by is_makes) same in
    let most : length before.lists.tasks + count_by is_makes n.edits ≤ length seen.lists.tasks = n.tasks in
    omega (arith, many, few, most, count)

-- ---- two fronts of one list: they are equal, or one goes on where the other ends

abbrev Fronts : List (List ℕ) → List (List ℕ) → List ℕ → List ℕ → Type 0
Fronts x y e f = ((x ≡ y) × (e ≡ f)) ⊎ (((t : List (List ℕ)) × (y ≡ x ++ e ∷ t)) ⊎ ((t : List (List ℕ)) × (x ≡ y ++ f ∷ t)))

fronts_more : (a b : List ℕ) (x y : List (List ℕ)) (e f : List ℕ) → a ≡ b → Fronts x y e f → Fronts (a ∷ x) (b ∷ y) e f
fronts_more a b x y e f h (inl same) = inl (ap₂ (λ (z : List ℕ) (l : List (List ℕ)). z ∷ l) h same.0, same.1)
fronts_more a b x y e f h (inr (inl (t, is))) = inr (inl (t, ap₂ (λ (z : List ℕ) (l : List (List ℕ)). z ∷ l) (sym h) is))
fronts_more a b x y e f h (inr (inr (t, is))) = inr (inr (t, ap₂ (λ (z : List ℕ) (l : List (List ℕ)). z ∷ l) h is))

fronts : (x y r s : List (List ℕ)) (e f : List ℕ) → x ++ e ∷ r ≡ y ++ f ∷ s → Fronts x y e f
fronts [] [] r s e f h = inl (refl, (list_heads e f r s h).0)
fronts [] (b ∷ y) r s e f h = inr (inl (y, ap (λ (z : List ℕ). z ∷ y) (sym (list_heads e b r (y ++ f ∷ s) h).0)))
fronts (a ∷ x) [] r s e f h = inr (inr (x, ap (λ (z : List ℕ). z ∷ x) (list_heads a f (x ++ e ∷ r) s h).0))
fronts (a ∷ x) (b ∷ y) r s e f h =
    let parts = list_heads a b (x ++ e ∷ r) (y ++ f ∷ s) h in
    fronts_more a b x y e f parts.0 (fronts x y r s e f parts.1)

-- equal entries are equal records, and lead to one state
same_records : (xs ys : List Record) → AllByRecursion InRange xs → AllByRecursion InRange ys → entries_of xs ≡ entries_of ys → xs ≡ ys
same_records [] [] p q e = refl
same_records [] (y ∷ ys) p q e = absurd (cc)
same_records (x ∷ xs) [] p q e = absurd (cc)
same_records (x ∷ xs) (y ∷ ys) p q e =
    let parts = list_heads (layout x) (layout y) (entries_of xs) (entries_of ys) e in
    ap₂ (λ (z : Record) (l : List Record). z ∷ l) (same_record x y p.0 q.0 parts.0) (same_records xs ys p.1 q.1 parts.1)

same_seen : (given : Given) (run : ℕ) (xs ys : List Record) (a b : Shown) → xs ≡ ys → IsShownAfter given run xs a → IsShownAfter given run ys b → a ≡ b
same_seen given run xs ys a b e x y =
    let l : Leads given run ys x.state = subst (λ (rs : List Record). Leads given run rs x.state) e x.leads in
    x.is ∙ ap shown (run_one given run ys x.state y.state l y.leads) ∙ sym y.is

-- ---- two refusals behind the first entry

breaks_breaks : (given : Given) (run : ℕ) (entries : List (List ℕ)) (p q : ℕ) (x : BreaksOff given run entries p) (y : BreaksOff given run entries q)
    → Fronts (entries_of x.records) (entries_of y.records) x.next y.next → p ≡ q
breaks_breaks given run entries p q x y (inl same) = x.at ∙ ap (λ (l : List (List ℕ)). length (front l)) same.0 ∙ sym y.at
breaks_breaks given run entries p q x y (inr (inl (t, is))) =
    absurd (not_next x.seen y.seen x.next x.bad
    (next_in given run y.records x.records y.seen x.seen x.next t y.goes_on.ranges x.goes_on.ranges y.goes_on.shows x.goes_on.shows is))
breaks_breaks given run entries p q x y (inr (inr (t, is))) =
    absurd (not_next y.seen x.seen y.next y.bad
    (next_in given run x.records y.records x.seen y.seen y.next t x.goes_on.ranges y.goes_on.ranges x.goes_on.shows y.goes_on.shows is))

breaks_grows : (given : Given) (run : ℕ) (entries : List (List ℕ)) (p : ℕ) (x : BreaksOff given run entries p) (y : Overgrows given run entries)
    → Fronts (entries_of x.records) (entries_of y.records) x.next y.next → ⊥
breaks_grows given run entries p x y (inl same) =
    let seen : x.seen ≡ y.seen = same_seen given run x.records y.records x.seen y.seen
    (same_records x.records y.records x.goes_on.ranges y.goes_on.ranges same.0) x.goes_on.shows y.goes_on.shows in
    none-some y.edits (sym (x.bad y.r (ap record_of same.1 ∙ y.reads)) ∙ ap (λ (s : Shown). change s y.r) seen ∙ y.takes)
breaks_grows given run entries p x y (inr (inl (t, is))) =
    not_next x.seen y.seen x.next x.bad
    (next_in given run y.records x.records y.seen x.seen x.next t y.goes_on.ranges x.goes_on.ranges y.goes_on.shows x.goes_on.shows is)
breaks_grows given run entries p x y (inr (inr (t, is))) =
    not_many y.seen x.seen y.next y.r y.edits y.reads y.takes y.many x.goes_on.tasks
    (next_in given run x.records y.records x.seen y.seen y.next t x.goes_on.ranges y.goes_on.ranges x.goes_on.shows y.goes_on.shows is)

abbrev RefusesLater : Given → ℕ → List (List ℕ) → EngineError → Type 0
RefusesLater given run entries (refused.Damaged place) = BreaksOff given run entries place
RefusesLater given run entries (refused.Limit what) = (what ≡ limit.Tasks) × Overgrows given run entries
RefusesLater given run entries other = ⊥

two_fronts : (given : Given) (run : ℕ) (entries : List (List ℕ)) (xs ys : List Record) (a b : Shown) (e f : List ℕ) → GoesOnWith given run entries xs a e
    → GoesOnWith given run entries ys b f → Fronts (entries_of xs) (entries_of ys) e f
two_fronts given run entries xs ys a b e f x y = fronts (entries_of xs) (entries_of ys) x.others y.others e f (sym x.are ∙ y.are)

later_breaks : (given : Given) (run : ℕ) (entries : List (List ℕ)) (place : ℕ) (b : EngineError) → BreaksOff given run entries place → RefusesLater given run entries b → refused.Damaged place ≡ b
later_breaks given run entries place (refused.Damaged q) x y =
    ap (λ n. refused.Damaged n) (breaks_breaks given run entries place q x y (two_fronts given run entries x.records y.records x.seen y.seen x.next y.next x.goes_on y.goes_on))
later_breaks given run entries place (refused.Limit what) x y =
    let o : Overgrows given run entries = y.1 in
    absurd (breaks_grows given run entries place x o (two_fronts given run entries x.records o.records x.seen o.seen x.next o.next x.goes_on o.goes_on))
later_breaks given run entries place (refused.OtherRun held asked) x y = absurd y
later_breaks given run entries place (refused.OtherBook index) x y = absurd y
later_breaks given run entries place refused.Disk x y = absurd y
later_breaks given run entries place refused.Broken x y = absurd y
later_breaks given run entries place refused.Memory x y = absurd y

later_grows : (given : Given) (run : ℕ) (entries : List (List ℕ)) (what : LimitKind) (b : EngineError) → what ≡ limit.Tasks → Overgrows given run entries → RefusesLater given run entries b
    → refused.Limit what ≡ b
later_grows given run entries what (refused.Damaged q) e x y =
    absurd (breaks_grows given run entries q y x (two_fronts given run entries y.records x.records y.seen x.seen y.next x.next y.goes_on x.goes_on))
later_grows given run entries what (refused.Limit other) e x y = ap (λ (k : LimitKind). refused.Limit k) (e ∙ sym y.0)
later_grows given run entries what (refused.OtherRun held asked) e x y = absurd y
later_grows given run entries what (refused.OtherBook index) e x y = absurd y
later_grows given run entries what refused.Disk e x y = absurd y
later_grows given run entries what refused.Broken e x y = absurd y
later_grows given run entries what refused.Memory e x y = absurd y

later_one : (given : Given) (run : ℕ) (entries : List (List ℕ)) (a b : EngineError) → RefusesLater given run entries a → RefusesLater given run entries b → a ≡ b
later_one given run entries (refused.Damaged p) b x y = later_breaks given run entries p b x y
later_one given run entries (refused.Limit what) b x y = later_grows given run entries what b x.0 x.1 y
later_one given run entries (refused.OtherRun held asked) b x y = absurd x
later_one given run entries (refused.OtherBook index) b x y = absurd x
later_one given run entries refused.Disk b x y = absurd x
later_one given run entries refused.Broken b x y = absurd x
later_one given run entries refused.Memory b x y = absurd x

-- ---- what the first entry settles

abbrev ByMoment : Given → ℕ → List (List ℕ) → ℕ → EngineError → Type 0
ByMoment given run entries moment error =
    ((last_moment < moment) × (error ≡ refused.Damaged first_gate)) ⊎ ((moment ≤ last_moment) × RefusesLater given run entries error)

abbrev ByTexts : Given → ℕ → List (List ℕ) → ℕ → List (List ℕ) → List ℕ → EngineError → Type 0
ByTexts given run entries moment books bind error =
    ((index : ℕ) × DiffersAt books bind given index × (error ≡ refused.OtherBook index))
    ⊎ ((books ≡ given.texts) × (bind ≡ given.bind) × ByMoment given run entries moment error)

abbrev ByRecord : Given → ℕ → List (List ℕ) → Record → EngineError → Type 0
ByRecord given run entries (entry.Begin held moment books bind) error =
    ((held ≢ run) × (error ≡ refused.OtherRun held run)) ⊎ ((held ≡ run) × ByTexts given run entries moment books bind error)
ByRecord given run entries other error = error ≡ refused.Damaged first_gate

abbrev Verdict : Given → ℕ → List (List ℕ) → Option Record → EngineError → Type 0
Verdict given run entries None error = error ≡ refused.Damaged first_gate
Verdict given run entries (Some r) error = ByRecord given run entries r error

three : (i j : ℕ) → (i < j) ⊎ ((i ≡ j) ⊎ (j < i))
three zero zero = inr (inl refl)
three zero (suc j) = inl (omega arith)
three (suc i) zero = inr (inr (omega arith))
three (suc i) (suc j) = elim (three i j) [
  | inl lt ↦ inl (omega (arith, lt))
  | inr more ↦ elim more [ inl e ↦ inr (inl (ap suc e)) | inr lt ↦ inr (inr (omega (arith, lt))) ]
]

one_other : (held asked : List (List ℕ)) (i j : ℕ) → IsFirstOther held asked i → IsFirstOther held asked j → (i < j) ⊎ ((i ≡ j) ⊎ (j < i)) → i ≡ j
one_other held asked i j a b (inl lt) = absurd (a.differs (b.before i lt))
one_other held asked i j a b (inr (inl e)) = e
one_other held asked i j a b (inr (inr lt)) = absurd (b.differs (a.before j lt))

no_other : (held asked : List (List ℕ)) (i : ℕ) → IsFirstOther held asked i → held ≡ asked → ⊥
no_other held asked i a e = a.differs (ap (λ (l : List (List ℕ)). slice_get l i) e)

one_index : (books : List (List ℕ)) (bind : List ℕ) (given : Given) (i j : ℕ) → DiffersAt books bind given i → DiffersAt books bind given j → i ≡ j
one_index books bind given i j (inl a) (inl b) = one_other books given.texts i j a b (three i j)
one_index books bind given i j (inl a) (inr b) = absurd (no_other books given.texts i a b.0)
one_index books bind given i j (inr a) (inl b) = absurd (no_other books given.texts j b a.0)
one_index books bind given i j (inr a) (inr b) = a.2 ∙ sym b.2

no_index : (books : List (List ℕ)) (bind : List ℕ) (given : Given) (i : ℕ) → DiffersAt books bind given i → books ≡ given.texts → bind ≡ given.bind → ⊥
no_index books bind given i (inl a) e f = no_other books given.texts i a e
no_index books bind given i (inr a) e f = a.1 f

one_moment : (given : Given) (run : ℕ) (entries : List (List ℕ)) (moment : ℕ) (a b : EngineError) → ByMoment given run entries moment a → ByMoment given run entries moment b → a ≡ b
one_moment given run entries moment a b (inl x) (inl y) = x.1 ∙ sym y.1
one_moment given run entries moment a b (inl x) (inr y) = absurd (omega (arith, x.0, y.0))
one_moment given run entries moment a b (inr x) (inl y) = absurd (omega (arith, x.0, y.0))
one_moment given run entries moment a b (inr x) (inr y) = later_one given run entries a b x.1 y.1

one_texts : (given : Given) (run : ℕ) (entries : List (List ℕ)) (moment : ℕ) (books : List (List ℕ)) (bind : List ℕ) (a b : EngineError)
    → ByTexts given run entries moment books bind a → ByTexts given run entries moment books bind b → a ≡ b
one_texts given run entries moment books bind a b (inl x) (inl y) =
    x.2 ∙ ap (λ n. refused.OtherBook n) (one_index books bind given x.0 y.0 x.1 y.1) ∙ sym y.2
one_texts given run entries moment books bind a b (inl x) (inr y) = absurd (no_index books bind given x.0 x.1 y.0 y.1)
one_texts given run entries moment books bind a b (inr x) (inl y) = absurd (no_index books bind given y.0 y.1 x.0 x.1)
one_texts given run entries moment books bind a b (inr x) (inr y) = one_moment given run entries moment a b x.2 y.2

one_begin : (given : Given) (run : ℕ) (entries : List (List ℕ)) (held moment : ℕ) (books : List (List ℕ)) (bind : List ℕ) (a b : EngineError)
    → ByRecord given run entries (entry.Begin held moment books bind) a → ByRecord given run entries (entry.Begin held moment books bind) b → a ≡ b
one_begin given run entries held moment books bind a b (inl x) (inl y) = x.1 ∙ sym y.1
one_begin given run entries held moment books bind a b (inl x) (inr y) = absurd (x.0 y.0)
one_begin given run entries held moment books bind a b (inr x) (inl y) = absurd (y.0 x.0)
one_begin given run entries held moment books bind a b (inr x) (inr y) = one_texts given run entries moment books bind a b x.1 y.1

one_record : (given : Given) (run : ℕ) (entries : List (List ℕ)) (r : Record) (a b : EngineError) → ByRecord given run entries r a → ByRecord given run entries r b → a ≡ b
one_record given run entries (entry.Begin held moment books bind) a b x y = one_begin given run entries held moment books bind a b x y
one_record given run entries (entry.Walk task moment) a b x y = x ∙ sym y
one_record given run entries (entry.Send task issue agent moment bytes) a b x y = x ∙ sym y
one_record given run entries (entry.Reply issue moment status rule text) a b x y = x ∙ sym y
one_record given run entries (entry.Expire issue moment) a b x y = x ∙ sym y
one_record given run entries (entry.Upgrade version moment) a b x y = x ∙ sym y
one_record given run entries (entry.Ask task issue moment bytes) a b x y = x ∙ sym y
one_record given run entries (entry.Told issue moment status text) a b x y = x ∙ sym y

one_verdict : (given : Given) (run : ℕ) (entries : List (List ℕ)) (o : Option Record) (a b : EngineError) → Verdict given run entries o a → Verdict given run entries o b → a ≡ b
one_verdict given run entries None a b x y = x ∙ sym y
one_verdict given run entries (Some r) a b x y = one_record given run entries r a b x y

-- ---- each refusal by its first entry

record Opens (given : Given) (run : ℕ) (entries : List (List ℕ)) (error : EngineError) : Type 0 where
  first : List ℕ
  others : List (List ℕ)
  are : entries ≡ first ∷ others
  verdict : Verdict given run entries (record_of first) error

otherwise : (given : Given) (run : ℕ) (entries : List (List ℕ)) (error : EngineError) (o : Option Record)
    → ((held moment : ℕ) (books : List (List ℕ)) (bind : List ℕ) → o ≢ Some (entry.Begin held moment books bind)) → error ≡ refused.Damaged first_gate → Verdict given run entries o error
otherwise given run entries error None apart e = e
otherwise given run entries error (Some (entry.Begin held moment books bind)) apart e = absurd (apart held moment books bind refl)
otherwise given run entries error (Some (entry.Walk task moment)) apart e = e
otherwise given run entries error (Some (entry.Send task issue agent moment bytes)) apart e = e
otherwise given run entries error (Some (entry.Reply issue moment status rule text)) apart e = e
otherwise given run entries error (Some (entry.Expire issue moment)) apart e = e
otherwise given run entries error (Some (entry.Upgrade version moment)) apart e = e
otherwise given run entries error (Some (entry.Ask task issue moment bytes)) apart e = e
otherwise given run entries error (Some (entry.Told issue moment status text)) apart e = e

opens_with : (given : Given) (run : ℕ) (entries : List (List ℕ)) (error : EngineError) (held moment : ℕ) (books : List (List ℕ)) (bind : List ℕ)
    → BeginsWith entries held moment books bind → ByRecord given run entries (entry.Begin held moment books bind) error → Opens given run entries error
opens_with given run entries error held moment books bind b v = record {
  first = b.first;
  others = b.others;
  are = b.are;
  verdict = subst (λ (o : Option Record). Verdict given run entries o error) (sym b.reads) v;
}

-- the records of a run begin with the Begin
record Head (given : Given) (run : ℕ) (entries : List (List ℕ)) : Type 0 where
  moment : ℕ
  in_time : moment ≤ last_moment
  begins : BeginsWith entries run moment given.texts given.bind

head_of : (given : Given) (run : ℕ) (entries : List (List ℕ)) (rs : List Record) (seen : Shown) (rest : List (List ℕ)) → AllByRecursion InRange rs → IsShownAfter given run rs seen
    → entries ≡ entries_of rs ++ rest → Head given run entries
head_of given run entries rs seen rest ranges h e =
    let l : Leads given run rs h.state = h.leads in
    let fits : AllByRecursion InRange (begin_of given run l.now ∷ l.others) = subst (AllByRecursion InRange) l.records_are ranges in
    record {
      moment = l.now;
      in_time = l.in_time;
      begins = record {
        first = layout (begin_of given run l.now);
        others = entries_of l.others ++ rest;
        are = e ∙ ap (λ (x : List Record). entries_of x ++ rest) l.records_are;
        reads = record_again (begin_of given run l.now) fits.0;
      };
    }

opens_later : (given : Given) (run : ℕ) (entries : List (List ℕ)) (error : EngineError) (rs : List Record) (seen : Shown) (next : List ℕ) → GoesOnWith given run entries rs seen next
    → RefusesLater given run entries error → Opens given run entries error
opens_later given run entries error rs seen next g later =
    let h = head_of given run entries rs seen (next ∷ g.others) g.ranges g.shows g.are in
    opens_with given run entries error run h.moment given.texts given.bind h.begins (inr (refl, inr (refl, refl, inr (h.in_time, later))))

opens_of : (given : Given) (run : ℕ) (entries : List (List ℕ)) (error : EngineError) → RefusesEntries given run entries error → Opens given run entries error
opens_of given run entries (refused.Damaged place) (inl (b, e)) = record {
  first = b.first;
  others = b.others;
  are = b.are;
  verdict = otherwise given run entries (refused.Damaged place) (record_of b.first) b.no_begin (ap (λ n. refused.Damaged n) e);
}
opens_of given run entries (refused.Damaged place) (inr (inl (b, e))) =
    opens_with given run entries (refused.Damaged place) run b.0 given.texts given.bind b.1 (inr (refl, inr (refl, refl, inl (b.2, ap (λ n. refused.Damaged n) e))))
opens_of given run entries (refused.Damaged place) (inr (inr b)) =
    opens_later given run entries (refused.Damaged place) b.records b.seen b.next b.goes_on b
opens_of given run entries (refused.OtherRun held asked) (b, apart, e) =
    opens_with given run entries (refused.OtherRun held asked) held b.0 b.1 b.2 b.3 (inl (apart, ap (λ n. refused.OtherRun held n) e))
opens_of given run entries (refused.OtherBook index) (moment, books, bind, b, differs) =
    opens_with given run entries (refused.OtherBook index) run moment books bind b (inr (refl, inl (index, differs, refl)))
opens_of given run entries (refused.Limit what) (e, o) = opens_later given run entries (refused.Limit what) o.records o.seen o.next o.goes_on (e, o)
opens_of given run entries refused.Disk h = absurd h
opens_of given run entries refused.Broken h = absurd h
opens_of given run entries refused.Memory h = absurd h

one_entries : (given : Given) (run : ℕ) (entries : List (List ℕ)) (a b : EngineError) → RefusesEntries given run entries a → RefusesEntries given run entries b → a ≡ b
one_entries given run entries a b x y =
    let p : Opens given run entries a = opens_of given run entries a x in
    let q : Opens given run entries b = opens_of given run entries b y in
    let first : p.first ≡ q.first = (list_heads p.first q.first p.others q.others (sym p.are ∙ q.are)).0 in
    one_verdict given run entries (record_of q.first) a b (subst (λ (item : List ℕ). Verdict given run entries (record_of item) a) first p.verdict) q.verdict

-- ---- the laws

pub one_refusal : OneRefusal
one_refusal given run image a b (inl x) (inl y) = x.is ∙ ap (λ n. refused.Damaged n) (one_place image x.place y.place x.damaged y.damaged) ∙ sym y.is
one_refusal given run image a b (inl x) (inr y) = absurd (no_list_where_damaged image x.place y.entries x.damaged y.stands)
one_refusal given run image a b (inr x) (inl y) = absurd (no_list_where_damaged image y.place x.entries y.damaged x.stands)
one_refusal given run image a b (inr x) (inr y) =
    one_entries given run x.entries a b x.refuses (subst (λ (l : List (List ℕ)). RefusesEntries given run l b) (one_list image y.entries x.entries y.stands x.stands) y.refuses)

-- a run is not refused for what follows its Begin
not_later : (given : Given) (run : ℕ) (rs : List Record) (seen : Shown) (error : EngineError) → AllByRecursion InRange rs → IsShownAfter given run rs seen → length seen.lists.tasks ≤ most_tasks
    → RefusesLater given run (entries_of rs) error → ⊥
not_later given run rs seen (refused.Damaged place) ranges h few b =
    not_next b.seen seen b.next b.bad (next_in given run rs b.records seen b.seen b.next b.goes_on.others ranges b.goes_on.ranges h b.goes_on.shows b.goes_on.are)
not_later given run rs seen (refused.Limit what) ranges h few y =
    let o : Overgrows given run (entries_of rs) = y.1 in
    not_many o.seen seen o.next o.r o.edits o.reads o.takes o.many few
    (next_in given run rs o.records seen o.seen o.next o.goes_on.others ranges o.goes_on.ranges h o.goes_on.shows o.goes_on.are)
not_later given run rs seen (refused.OtherRun held asked) ranges h few y = y
not_later given run rs seen (refused.OtherBook index) ranges h few y = y
not_later given run rs seen refused.Disk ranges h few y = y
not_later given run rs seen refused.Broken ranges h few y = y
not_later given run rs seen refused.Memory ranges h few y = y

not_begin : (given : Given) (run : ℕ) (rs : List Record) (seen : Shown) (error : EngineError) (moment : ℕ) → AllByRecursion InRange rs → IsShownAfter given run rs seen
    → length seen.lists.tasks ≤ most_tasks → moment ≤ last_moment → ByRecord given run (entries_of rs) (entry.Begin run moment given.texts given.bind) error → ⊥
not_begin given run rs seen error moment ranges h few le (inl x) = x.0 refl
not_begin given run rs seen error moment ranges h few le (inr (e, inl x)) = no_index given.texts given.bind given x.0 x.1 refl refl
not_begin given run rs seen error moment ranges h few le (inr (e, inr (f, g, inl x))) = omega (arith, x.0, le)
not_begin given run rs seen error moment ranges h few le (inr (e, inr (f, g, inr x))) = not_later given run rs seen error ranges h few x.1

not_run : (given : Given) (run : ℕ) (rs : List Record) (seen : Shown) (error : EngineError) → AllByRecursion InRange rs → IsShownAfter given run rs seen → length seen.lists.tasks ≤ most_tasks
    → RefusesEntries given run (entries_of rs) error → ⊥
not_run given run rs seen error ranges h few x =
    let p : Opens given run (entries_of rs) error = opens_of given run (entries_of rs) error x in
    let k = head_of given run (entries_of rs) rs seen [] ranges h (sym (append-nil (entries_of rs))) in
    let b : BeginsWith (entries_of rs) run k.moment given.texts given.bind = k.begins in
    let first : p.first ≡ b.first = (list_heads p.first b.first p.others b.others (sym p.are ∙ b.are)).0 in
    not_begin given run rs seen error k.moment ranges h few k.in_time
    (subst (λ (o : Option Record). Verdict given run (entries_of rs) o error) (ap record_of first ∙ b.reads) p.verdict)

not_so_far : (given : Given) (run : ℕ) (rs : List Record) (seen : Shown) (error : EngineError) → AllByRecursion InRange rs → seen.given ≡ given → seen.run ≡ run → IsSoFar rs seen
    → length seen.lists.tasks ≤ most_tasks → RefusesEntries given run (entries_of rs) error → ⊥
not_so_far given run [] seen error ranges p q h few x =
    let o : Opens given run [] error = opens_of given run [] error x in
    no_items o.first o.others o.are
  where
    no_items : (first : List ℕ) (others : List (List ℕ)) → [] ≡ first ∷ others → ⊥
    no_items first others e = cc
not_so_far given run (r ∷ rs) seen error ranges p q h few x =
    let after : IsShownAfter given run (r ∷ rs) seen =
    subst (λ (k : ℕ). IsShownAfter given k (r ∷ rs) seen) q (subst (λ (g : Given). IsShownAfter g seen.run (r ∷ rs) seen) p h) in
    not_run given run (r ∷ rs) seen error ranges after few x

pub no_run_where_refused : NoRunWhereRefused
no_run_where_refused given run image error (inl x) h = no_list_where_damaged image x.place (entries_of h.records) x.damaged h.holds
no_run_where_refused given run image error (inr x) h =
    not_so_far given run h.records h.seen error h.ranges h.given_is h.run_is h.so_far h.tasks
    (subst (λ (l : List (List ℕ)). RefusesEntries given run l error) (one_list image x.entries (entries_of h.records) x.stands h.holds) x.refuses)
