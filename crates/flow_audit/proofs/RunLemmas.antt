-- The flow of a run, one record after another.
use Rattle.std.proofs.Common.{◌≡◌, inl, inr, ℕ, zero, suc, ◌+◌, ◌<◌, ◌≤◌, List, [], ◌∷◌, ◌++◌, length, take, drop, Some, None, refl, sym, ap, subst, ◌∙◌, arith, take-append-drop}
use Rattle.std.specs.Prelude.{count_by, slice_get}
use Rattle.std.proofs.lemmas.Option.{none-some, slice_get_within}
use Rattle.std.proofs.lemmas.Bool.{cases_lt}
use Rattle.std.proofs.lemmas.List.{take_all}
use Rattle.cacao_check.specs.Fits.{FitsKind}
use Rattle.run_records.specs.declared.record.Record.{Record}
use Rattle.flow_core_rules.specs.Accepted.{Accepted, IsRunOf}
use Rattle.flow_core_rules.specs.Changes.{change, moment_of}
use Rattle.flow_core_rules.specs.Givens.{Given}
use Rattle.flow_core_rules.specs.Runs.{Leads, begin_of, shown_after}
use Rattle.flow_core_rules.specs.State.{Shown, State, shown}
use Rattle.flow_core_rules.proofs.OneRunLemmas.{one_run}
use Rattle.flow_core.specs.TakenRecords as flows
use Rattle.flow_core.specs.TakenRecords.{IsShownAfter, MakesTooMany, Took}
use Rattle.flow_core.specs.Views.{View, is_makes, taken}
use Rattle.flow_core.proofs.FlowLemmas.{taken_later, tasks_grow}
use Rattle.flow_core.proofs.FrontLemmas.{tasks_on}
use Rattle.flow_core.proofs.ReachedLemmas.{leads_placed, shown_more}
use Rattle.flow_core.proofs.TakenLemmas.{took_more}
use Rattle.flow_laws.specs.Journals.{AreAccepted, IsJournalRun}
use Rattle.flow_audit.specs.Breaks.{BreaksRun, IsWithinTasks, PassesTasks, most_tasks}
use Rattle.flow_audit.specs.Parts.{HasTaken}
use Rattle.flow_audit.proofs.BeginLemmas.{taken_as}
use Rattle.flow_audit.proofs.FrontLemmas.{front_leads, next_of_run}
use Rattle.flow_audit.proofs.ListLemmas.{take_next, take_take}

-- ---- one record more

pub taken_more : (first : Record) (others : List Record) (v w : View) (r : Record) → HasTaken (first ∷ others) v → Took v r w → length w.seen.lists.tasks ≤ most_tasks
    → HasTaken (first ∷ others ++ r ∷ []) w
taken_more first others v w r h took few =
    let before : flows.HasTaken (first ∷ others) v = record { count = h.count; so_far = record { state = h.state; leads = h.leads; is = h.is } } in
    taken_as first (others ++ r ∷ []) w (subst (λ (x : View). Accepted AreAccepted FitsKind x.seen.given.texts x.seen.given.bind x.seen.given) (sym took.new_is) h.accepted)
    (took_more (first ∷ others) v w r before took) few

-- ---- no run

abbrev pub inner_run : (records : List Record) (v : View) → HasTaken records v → IsRunOf AreAccepted FitsKind records
inner_run records v h = record { given = v.seen.given; run = v.seen.run; state = h.state; accepted = h.accepted; leads = h.leads }

no_next : (first : Record) (others : List Record) (v : View) (r : Record) → HasTaken (first ∷ others) v → taken v r ≡ None → IsRunOf AreAccepted FitsKind (first ∷ others ++ r ∷ []) → ⊥
no_next first others v r h none longer =
    let next = next_of_run AreAccepted FitsKind v.seen.given v.seen.run first others r h.state h.accepted h.leads longer in
    let no : change (shown h.state) r ≡ None = subst (λ (s : Shown). change s r ≡ None) h.is (taken_later v r None (length others) h.count none) in
    none-some next.1.edits (sym no ∙ next.1.change_is)

-- ---- fronts

-- a run of some records is one of a journal
pub as_journal : (records : List Record) → IsRunOf AreAccepted FitsKind records → IsJournalRun records
as_journal [] run = tt
as_journal (r ∷ rs) run = run

head_of : (records : List Record) (n : ℕ) → 1 ≤ length records → (first : Record) × (others : List Record) × (take (suc n) records ≡ first ∷ others)
head_of [] n low = absurd (omega (arith, low))
head_of (r ∷ rs) n low = (r, take n rs, refl)

-- records of a run by another name
pub renamed : (xs ys : List Record) → xs ≡ ys → (whole : IsRunOf AreAccepted FitsKind xs) → (mine : IsRunOf AreAccepted FitsKind ys) × (mine.state ≡ whole.state)
renamed xs ys e whole = (
  record { given = whole.given; run = whole.run; state = whole.state; accepted = whole.accepted; leads = subst (λ (rs : List Record). Leads whole.given whole.run rs whole.state) e whole.leads },
  refl,
)

-- a front of a run is a run, with no more tasks
front_state : (first : Record) (others rest xs : List Record) → xs ≡ first ∷ others ++ rest → (whole : IsRunOf AreAccepted FitsKind xs)
    → (mine : IsRunOf AreAccepted FitsKind (first ∷ others)) × (length mine.state.tasks ≤ length whole.state.tasks)
front_state first others rest xs e whole =
    let l : Leads whole.given whole.run (first ∷ others ++ rest) whole.state = subst (λ (rs : List Record). Leads whole.given whole.run rs whole.state) e whole.leads in
    let f = front_leads whole.given whole.run first others rest whole.state l in (
      record { given = whole.given; run = whole.run; state = f.state; accepted = whole.accepted; leads = f.leads },
      tasks_on rest f.state whole.state (leads_placed whole.given whole.run (first ∷ others) f.state f.leads) f.goes_on,
    )

-- a front of a longer front
pub front_at : (records : List Record) (k m : ℕ) → suc k ≤ length records → suc k ≤ m → (whole : IsRunOf AreAccepted FitsKind (take m records))
    → (mine : IsRunOf AreAccepted FitsKind (take (suc k) records)) × (length mine.state.tasks ≤ length whole.state.tasks)
front_at records k m le within whole =
    let head = head_of records k (omega (arith, le)) in
    let cut : take m records ≡ head.0 ∷ head.1 ++ drop (suc k) (take m records) =
    sym (take-append-drop (suc k) (take m records)) ∙ ap (λ (l : List Record). l ++ drop (suc k) (take m records)) (take_take records m (suc k) within ∙ head.2) in
    let f = front_state head.0 head.1 (drop (suc k) (take m records)) (take m records) cut whole in
    let mine = renamed (head.0 ∷ head.1) (take (suc k) records) (sym head.2) f.0 in
    (mine.0, subst (λ (s : State). length s.tasks ≤ length whole.state.tasks) (sym mine.1) f.1)

-- runs of the same records have as many tasks
pub same_tasks : (records : List Record) (x y : IsRunOf AreAccepted FitsKind records) → length x.state.tasks ≡ length y.state.tasks
same_tasks records x y = ap (λ (s : State). length s.tasks) (one_run AreAccepted FitsKind records x y).state_is

pub too_many : (a b c : ℕ) → a ≡ c → a ≤ b → b ≤ most_tasks → most_tasks < c → ⊥
too_many a b c p q r s = omega (arith, p, q, r, s)

-- no step of a run of few tasks made too many
few_before : (records : List Record) (v : View) (n m : ℕ) → HasTaken (take n records) v → m < n → n ≤ length records → PassesTasks records m → ⊥
few_before records v n m h lt le p =
    let whole = inner_run (take n records) v h in
    let mine = front_at records m n (omega (arith, lt, le)) (omega (arith, lt)) whole in
    too_many (length mine.0.state.tasks) (length h.state.tasks) (length p.next.state.tasks) (same_tasks (take (suc m) records) mine.0 p.next) mine.1 h.few p.many

-- no longer front than one that is no run is a run
pub no_longer : (records : List Record) (n m : ℕ) → n < length records → n ≤ m → ¬ IsJournalRun (take (suc n) records) → IsRunOf AreAccepted FitsKind (take (suc m) records) → ⊥
no_longer records n m lt le breaks longer = breaks (as_journal (take (suc n) records) (front_at records n (suc m) (omega (arith, lt)) (omega (arith, le)) longer).0)

-- ---- what stops a run

pub within_none : IsWithinTasks []
within_none n p = absurd (no_run p.before.given p.before.run p.before.state (take n []) (all_none n) p.before.leads)
  where
    all_none : (n : ℕ) → ◌≡◌ {A = List Record} (take n []) []
    all_none zero = refl
    all_none (suc n) = refl

    no_run : (given : Given) (run : ℕ) (state : State) (records : List Record) → records ≡ [] → Leads given run records state → ⊥
    no_run given run state records e l = let wrong : [] ≡ begin_of given run l.now ∷ l.others = sym e ∙ l.records_are in cc

-- a run that was taken as a whole
pub within_whole : (records : List Record) (v : View) → HasTaken records v → IsWithinTasks records
within_whole records v h n p = elim (cases_lt n (length records)) [
  | inl lt ↦ few_before records v (length records) n (subst (λ (l : List Record). HasTaken l v) (sym (take_all (length records) records (omega arith))) h) lt (omega arith) p
  | inr le ↦
      let whole : take (suc n) records ≡ records = take_all (suc n) records (omega (arith, le)) in
      let mine = renamed (take (suc n) records) records whole p.next in
      let same : length p.next.state.tasks ≡ length h.state.tasks = sym (ap (λ (s : State). length s.tasks) mine.1) ∙ same_tasks records mine.0 (inner_run records v h) in
      too_many (length p.next.state.tasks) (length h.state.tasks) (length p.next.state.tasks) refl (omega (arith, same)) h.few p.many
]

-- the first record is none of a run
pub stops_first : (records : List Record) (first : Record) (others : List Record) → records ≡ first ∷ others → ¬ IsJournalRun (first ∷ []) → BreaksRun records 0 × IsWithinTasks records
stops_first records first others is bad =
    let one : take 1 records ≡ first ∷ [] = ap (take 1) is in
    let breaks : ¬ IsJournalRun (take 1 records) = λ run. bad (subst IsJournalRun one run) in
    let low : 0 < length records = omega (arith, ap length is) in (
      record { there = low; before = tt; breaks = breaks },
      λ m p. no_longer records 0 m low (omega arith) breaks p.next,
    )

-- a later record is none
pub stops_later : (records : List Record) (n : ℕ) (v : View) (r : Record) → 1 ≤ n → slice_get records n ≡ Some r → HasTaken (take n records) v → taken v r ≡ None → BreaksRun records n × IsWithinTasks records
stops_later records zero v r low there h none = absurd (omega (arith, low))
stops_later records (suc k) v r low there h none =
    let lt : suc k < length records = slice_get_within records (suc k) r there in
    let head = head_of records k (omega (arith, lt)) in
    let next : take (suc (suc k)) records ≡ head.0 ∷ head.1 ++ r ∷ [] = take_next records (suc k) r there ∙ ap (λ (l : List Record). l ++ r ∷ []) head.2 in
    let h' : HasTaken (head.0 ∷ head.1) v = subst (λ (l : List Record). HasTaken l v) head.2 h in
    let breaks : ¬ IsJournalRun (take (suc (suc k)) records) = λ run. no_next head.0 head.1 v r h' none (subst IsJournalRun next run) in (
      record { there = lt; before = as_journal (take (suc k) records) (inner_run (take (suc k) records) v h); breaks = breaks },
      λ m p. elim (cases_lt m (suc k)) [
        | inl before ↦ few_before records v (suc k) m h before (omega (arith, lt)) p
        | inr behind ↦ no_longer records (suc k) m lt behind breaks p.next
      ],
    )

-- a later record makes too many tasks
pub passes_later : (records : List Record) (n : ℕ) (v : View) (r : Record) → 1 ≤ n → slice_get records n ≡ Some r → HasTaken (take n records) v → MakesTooMany v r → PassesTasks records n
passes_later records zero v r low there h m = absurd (omega (arith, low))
passes_later records (suc k) v r low there h m =
    let head = head_of records k (let lt : suc k < length records = slice_get_within records (suc k) r there in omega (arith, lt)) in
    let given = v.seen.given in
    let run = v.seen.run in
    let count : v.count ≡ suc (length head.1) = h.count ∙ ap length head.2 in
    let s : IsShownAfter given run (take (suc k) records ++ r ∷ []) (shown_after (moment_of r) m.edits v.seen) =
    shown_more given run (take (suc k) records) v.seen r m.edits (record { state = h.state; leads = h.leads; is = h.is }) (taken_later v r (Some m.edits) (length head.1) count m.takes) in
    let grown : length s.state.tasks ≡ length v.seen.lists.tasks + count_by is_makes m.edits = sym (ap (λ (x : Shown). length x.lists.tasks) s.is) ∙ tasks_grow m.edits v.seen.lists in
    record {
      before = inner_run (take (suc k) records) v h;
      few = h.few;
      next = record {
        given = given;
        run = run;
        state = s.state;
        accepted = h.accepted;
        leads = subst (λ (l : List Record). Leads given run l s.state) (sym (take_next records (suc k) r there)) s.leads;
      };
      many = omega (arith, m.many, grown);
    }

-- a later record was taken
pub taken_next : (records : List Record) (n : ℕ) (v w : View) (r : Record) → 1 ≤ n → slice_get records n ≡ Some r → HasTaken (take n records) v → Took v r w
    → length w.seen.lists.tasks ≤ most_tasks → HasTaken (take (n + 1) records) w
taken_next records zero v w r low there h took few = absurd (omega (arith, low))
taken_next records (suc k) v w r low there h took few =
    let head = head_of records k (omega (arith, slice_get_within records (suc k) r there)) in
    let next : take (suc k + 1) records ≡ head.0 ∷ head.1 ++ r ∷ [] =
    ap (λ m. take m records) (let e : suc k + 1 ≡ suc (suc k) = omega arith in e) ∙ take_next records (suc k) r there ∙ ap (λ (l : List Record). l ++ r ∷ []) head.2 in
    subst (λ (l : List Record). HasTaken l w) (sym next)
    (taken_more head.0 head.1 v w r (subst (λ (l : List Record). HasTaken l v) head.2 h) took few)
