-- What an append does to what is seen of a history.
use Rattle.std.proofs.Common.{◌≡◌, ◌⊎◌, ℕ, suc, ◌+◌, ◌<◌, ◌≤◌, Bool, true, false, cond, List, [], ◌∷◌, ◌++◌, length, Option, Some, None, Err, arith, refl, ap, ap₂, sym, subst, ◌∙◌}
use Rattle.std.specs.Prelude.{IsErrOf, IsSome, nat_lt, not, ◌==◌, option_and_then}
use Rattle.std.specs.Option.{option_or}
use Rattle.std.proofs.lemmas.Option.{none-some}
use Rattle.cacao_site.specs.Counts.{Rose}
use Rattle.cacao_site.specs.DiskCalls.{AllLeft, OnlyFile}
use Rattle.cacao_site.specs.View.{SiteView}
use Rattle.run_journal.specs.Durable.{IsImage, MayAppend, header_bytes, header_calls}
use Rattle.run_journal.specs.JournalView.{JournalView}
use Rattle.run_journal.specs.Layout.{Stands, StandsBeforeOrAfter, front}
use Rattle.run_journal.specs.declared.error.JournalError.{JournalError}
use Rattle.run_journal.specs.declared.error.JournalError.TheVariants as journal
use Rattle.run_records.specs.Layout.{layout}
use Rattle.run_records.specs.Ranges.{InRange}
use Rattle.run_records.specs.declared.record.Record.{Record}
use Rattle.flow_core_rules.specs.Changes.{change, moment_of}
use Rattle.flow_core_rules.specs.Edits.{Edit}
use Rattle.flow_core_rules.specs.Moves.{record_of}
use Rattle.flow_core_rules.specs.Runs.{shown_after}
use Rattle.flow_core_rules.specs.State.{Shown}
use Rattle.flow_core_rules.specs.declared.moves.Move.{Move}
use Rattle.flow_core.specs.Views.{View, Takes, begins, passed, taken, taken_by}
use Rattle.flow_core.proofs.ComingLemmas.{taken_made}
use Rattle.flow_core.specs.declared.flow_errors.LimitKind.{LimitKind}
use Rattle.flow_core.specs.declared.flow_errors.LimitKind.TheVariants as limit
use Rattle.flow_engine_history.specs.Appending.{IsSameFlow, IsSameJournal, RefusesEntry, RefusesRoom, length_with_entry}
use Rattle.flow_engine_history.specs.declared.error.EngineError.{EngineError}
use Rattle.flow_engine_history.specs.declared.error.EngineError.TheVariants as refused
use Rattle.flow_engine_history.specs.declared.history.History.TheInside.{Inside}
use Rattle.flow_engine_history.specs.HistoryCalls.{Adds, Is, IsOfMove, MayCome, MayMove, Offers, Refuses, limit_of, with_record}
use Rattle.flow_engine_history.specs.HistoryView.{HistoryView, HoldsRecords, IsReady, entries_of, flow_of, length_with}
use Rattle.flow_engine_history.specs.Errors.{error_of}
use Rattle.flow_engine_history.specs.KeptHistory.{IsKept, history_view, records_of, stand_before}
use Rattle.flow_engine_history.proofs.HistoryLemmas.{entries_push, kept_more, records_more}

-- ---- what a refusal of the journal is

pub refuses_entry : (e : JournalError) (j k : JournalView) (entry : List ℕ) (old new : SiteView)
    → (IsErrOf {T = Unit {0}} (Err e) journal.Disk → Rose old.disk.faults new.disk.faults)
    → (IsErrOf {T = Unit {0}} (Err e) journal.Disk → k.broken ≡ true)
    → ((needed : ℕ) → IsErrOf {T = Unit {0}} (Err e) (journal.Full needed) → (needed ≡ length_with_entry j entry) × (67_108_864 < needed))
    → ((needed : ℕ) → IsErrOf {T = Unit {0}} (Err e) (journal.Full needed) → (new ≡ old) × (k ≡ j))
    → (67_108_864 < length_with_entry j entry → IsErrOf {T = Unit {0}} (Err e) (journal.Full (length_with_entry j entry)))
    → ((place : ℕ) → (IsErrOf {T = Unit {0}} (Err e) journal.Broken → ⊥) × (IsErrOf {T = Unit {0}} (Err e) journal.Memory → ⊥) × (IsErrOf {T = Unit {0}} (Err e) (journal.Damaged place) → ⊥))
    → RefusesEntry j k entry (error_of e) old new
refuses_entry journal.Disk j k entry old new rose breaks full stays only other =
    (breaks refl, within (nat_lt 67_108_864 (length_with_entry j entry)) refl, rose refl)
  where
    wrong : IsErrOf {T = Unit {0}} (Err journal.Disk) (journal.Full (length_with_entry j entry)) → ⊥
    wrong h = cc

    within : (b : Bool) → nat_lt 67_108_864 (length_with_entry j entry) ≡ b → length_with_entry j entry ≤ 67_108_864
    within true e = absurd (wrong (only (grind arith)))
    within false e = grind arith
refuses_entry (journal.Damaged place) j k entry old new rose breaks full stays only other = absurd ((other place).2 refl)
refuses_entry (journal.Full needed) j k entry old new rose breaks full stays only other =
    let f = full needed refl in
    let s = stays needed refl in
    (refl, subst (λ (n : ℕ). 67_108_864 < n) f.0 f.1, s.1, s.0)
refuses_entry journal.Broken j k entry old new rose breaks full stays only other = absurd ((other 0).0 refl)
refuses_entry journal.Memory j k entry old new rose breaks full stays only other = absurd ((other 0).1 refl)

-- ---- views

abbrev view_of : List (List ℕ) → Shown → Bool → Bool → HistoryView
view_of items seen prepared broken = record { records = records_of items; seen = seen; prepared = prepared; broken = broken }

pub view_same : (a b : Inside) → IsSameJournal a.journal b.journal → IsSameFlow a.flow b.flow → history_view b ≡ history_view a
view_same a b journal flow =
    ap₂ (λ (l : List (List ℕ)) (s : Shown). view_of l s b.journal.prepared b.journal.broken) journal.items flow.seen
    ∙ ap₂ (λ (p q : Bool). view_of a.journal.items a.flow.seen p q) journal.prepared journal.broken

-- ---- what comes next

pub some_value : {A : Type 0} (o : Option A) → IsSome o → (x : A) × (o ≡ Some x)
some_value None h = absurd (wrong h)
  where
    wrong : false ≡ true → ⊥
    wrong e = cc
some_value (Some x) h = (x, refl)

-- whether a record is taken goes by the number of the records and by what is shown
pub taken_same : (v w : View) (r : Record) → w.count ≡ v.count → w.seen ≡ v.seen → taken w r ≡ taken v r
taken_same v w r count seen =
    ap₂ (λ (n : ℕ) (s : Shown). cond (not (n == 0)) (change s r) (begins s r)) count seen

-- no room was made for a record that may come next
refuses_early : (IsNext : Record → Type 0) (a : Inside) (c : MayCome (history_view a) IsNext) (e : EngineError) (k : HistoryView) (site : SiteView) → a.journal.broken ≡ false → k ≡ history_view a
    → RefusesRoom a.flow (Some c.edits) e → Refuses (history_view a) k IsNext e site site
refuses_early IsNext a c refused.Disk k site whole same h = absurd h
refuses_early IsNext a c (refused.Damaged place) k site whole same h = absurd h
refuses_early IsNext a c (refused.OtherRun held asked) k site whole same h = absurd h
refuses_early IsNext a c (refused.OtherBook index) k site whole same h = absurd h
refuses_early IsNext a c (refused.Limit what) k site whole same h =
    let passes : limit_of (history_view a) c.next c.edits ≡ Some what =
    ap (λ (o : Option LimitKind). option_or o (cond (nat_lt 67_108_864 (length_with (history_view a).records c.next)) (Some limit.Journal) None)) h in
    (record { comes = c; passes = passes; whole = whole }, same, refl)
refuses_early IsNext a c refused.Broken k site whole same h = absurd h
refuses_early IsNext a c refused.Memory k site whole same h = (whole, same, refl)

module _ (a : Inside) (next : Record) (edits : List Edit) (kept : IsKept a) (fits : InRange next) (takes : taken a.flow next ≡ Some edits) where
  abbrev rs : List Record
  rs = records_of a.journal.items

  pub comes : MayCome (history_view a) (Is next)
  comes = record {
    next = next;
    edits = edits;
    is = refl;
    takes = taken_same a.flow (flow_of (history_view a)) next (sym kept.count) refl ∙ takes;
  }

  pub refuses_room : (e : EngineError) (k : HistoryView) (site : SiteView) → a.journal.broken ≡ false → k ≡ history_view a → RefusesRoom a.flow (taken a.flow next) e → Refuses (history_view a) k (Is next) e site site
  unfolding comes
  refuses_room e k site whole same h = refuses_early (Is next) a comes e k site whole same (subst (λ (o : Option (List Edit)). RefusesRoom a.flow o e) takes h)

  -- the bytes of the file with the record
  length_is : (j : JournalView) (entry : List ℕ) → IsSameJournal a.journal j → entry ≡ layout next → length_with rs next ≡ length_with_entry j entry
  length_is j entry same is =
      sym (ap₂ (λ (l : List (List ℕ)) (e : List ℕ). length (front l) + 6 + length e) (same.items ∙ kept.entries) is)

  within : (n : ℕ) → n ≤ 67_108_864 → nat_lt 67_108_864 n ≡ false
  within n le = grind arith

  past : (n : ℕ) → 67_108_864 < n → nat_lt 67_108_864 n ≡ true
  past n lt = grind arith

  limit_none : (j : JournalView) (entry : List ℕ) → IsSameJournal a.journal j → entry ≡ layout next → passed a.flow.seen edits ≡ None → length_with_entry j entry ≤ 67_108_864 → limit_of (history_view a) next edits ≡ None
  limit_none j entry same is none le =
      ap₂ (λ (o : Option LimitKind) (b : Bool). option_or o (cond b (Some limit.Journal) None)) none
      (within (length_with rs next) (subst (λ (n : ℕ). n ≤ 67_108_864) (sym (length_is j entry same is)) le))

  limit_journal : (j : JournalView) (entry : List ℕ) → IsSameJournal a.journal j → entry ≡ layout next → passed a.flow.seen edits ≡ None → 67_108_864 < length_with_entry j entry → limit_of (history_view a) next edits ≡ Some limit.Journal
  limit_journal j entry same is none lt =
      ap₂ (λ (o : Option LimitKind) (b : Bool). option_or o (cond b (Some limit.Journal) None)) none
      (past (length_with rs next) (subst (λ (n : ℕ). 67_108_864 < n) (sym (length_is j entry same is)) lt))

  -- the entries behind the append
  items_more : (j : JournalView) (entry : List ℕ) → IsSameJournal a.journal j → entry ≡ layout next → j.items ++ entry ∷ [] ≡ entries_of (rs ++ next ∷ [])
  items_more j entry same is =
      ap₂ (λ (l : List (List ℕ)) (e : List ℕ). l ++ e ∷ []) (same.items ∙ kept.entries) is ∙ sym (entries_push rs next)

  only_records : (j : JournalView) (entry : List ℕ) (old new : SiteView) → IsSameJournal a.journal j → entry ≡ layout next → OnlyFile j.file old new (StandsBeforeOrAfter j.items entry)
      → OnlyFile 0 old new (λ image. HoldsRecords rs image ⊎ HoldsRecords (rs ++ next ∷ []) image)
  only_records j entry old new same is only =
      subst (λ (l : List (List ℕ)). OnlyFile 0 old new (λ image. HoldsRecords rs image ⊎ Stands image l)) (items_more j entry same is)
      (subst (λ (l : List (List ℕ)). OnlyFile 0 old new (λ image. Stands image l ⊎ Stands image (j.items ++ entry ∷ []))) (same.items ∙ kept.entries)
      (subst (λ (n : ℕ). OnlyFile n old new (StandsBeforeOrAfter j.items entry)) (same.file ∙ kept.file) only))

  pub offers : (j : JournalView) (entry : List ℕ) (old new : SiteView) → IsSameJournal a.journal j → entry ≡ layout next → passed a.flow.seen edits ≡ None → a.journal.broken ≡ false
      → length_with_entry j entry ≤ 67_108_864 → MayAppend j entry old new → Offers (history_view a) (Is next) old new
  unfolding comes
  offers j entry old new same is none whole le appends = record {
    comes = comes;
    in_range = fits;
    within = limit_none j entry same is none le;
    whole = whole;
    file = only_records j entry old new same is appends.file;
    calls = subst (λ (b : Bool). new.disk.calls ≤ old.disk.calls + (header_calls b + 4)) same.prepared appends.calls;
    written = subst (λ (e : List ℕ). new.disk.written ≤ old.disk.written + (header_bytes a.journal.prepared + (length e + 6))) is
        (subst (λ (b : Bool). new.disk.written ≤ old.disk.written + (header_bytes b + (length entry + 6))) same.prepared appends.written);
  }

  -- ---- at Ok

  pub view_more : (j : JournalView) (b : Inside) (entry : List ℕ) → IsSameJournal a.journal j → entry ≡ layout next → b.journal ≡ record j { items = j.items ++ entry ∷ []; prepared = true; spare = 0 }
      → a.journal.broken ≡ false → b.flow.seen ≡ shown_after (moment_of next) edits a.flow.seen → history_view b ≡ with_record (history_view a) next edits
  view_more j b entry same is now whole seen =
      let items : b.journal.items ≡ a.journal.items ++ layout next ∷ [] = ap (λ (x : JournalView). x.items) now ∙ ap₂ (λ (l : List (List ℕ)) (e : List ℕ). l ++ e ∷ []) same.items is in
      let prepared : b.journal.prepared ≡ true = ap (λ (x : JournalView). x.prepared) now in
      let broken : b.journal.broken ≡ false = ap (λ (x : JournalView). x.broken) now ∙ same.broken ∙ whole in
      let records : records_of b.journal.items ≡ rs ++ next ∷ [] = ap records_of items ∙ records_more a.journal.items next kept.entries kept.ranges fits in
      ap₂ (λ (l : List Record) (s : Shown). let h : HistoryView = record { records = l; seen = s; prepared = b.journal.prepared; broken = b.journal.broken } in h) records seen
      ∙ ap₂ (λ (p q : Bool). let h : HistoryView = record { records = rs ++ next ∷ []; seen = shown_after (moment_of next) edits a.flow.seen; prepared = p; broken = q } in h) prepared broken

  pub adds : (j : JournalView) (b : Inside) (entry : List ℕ) (old new : SiteView) → IsSameJournal a.journal j → entry ≡ layout next → passed a.flow.seen edits ≡ None → a.journal.broken ≡ false
      → length_with_entry j entry ≤ 67_108_864 → MayAppend j entry old new → b.journal ≡ record j { items = j.items ++ entry ∷ []; prepared = true; spare = 0 }
      → b.flow.seen ≡ shown_after (moment_of next) edits a.flow.seen → new.disk.faults ≡ old.disk.faults → Adds (history_view a) (history_view b) (Is next) old new
  unfolding comes offers
  adds j b entry old new same is none whole le appends now seen steady = record {
    offers = offers j entry old new same is none whole le appends;
    steady = steady;
    view = view_more j b entry same is now whole seen;
  }

  pub ready_more : (j : JournalView) (b : Inside) (entry : List ℕ) (new : SiteView) → IsSameJournal a.journal j → entry ≡ layout next → b.journal ≡ record j { items = j.items ++ entry ∷ []; prepared = true; spare = 0 }
      → a.journal.broken ≡ false → b.flow.seen ≡ shown_after (moment_of next) edits a.flow.seen → AllLeft j.file new.disk (IsImage true (j.items ++ entry ∷ [])) → IsReady (history_view b) new
  ready_more j b entry new same is now whole seen images =
      subst (λ (h : HistoryView). IsReady h new) (sym (view_more j b entry same is now whole seen))
      (λ unbroken. subst (λ (l : List (List ℕ)). AllLeft 0 new.disk (IsImage true l)) (items_more j entry same is)
      (subst (λ (n : ℕ). AllLeft n new.disk (IsImage true (j.items ++ entry ∷ []))) (same.file ∙ kept.file) images))

  pub seen_after : (v w : View) → IsSameFlow a.flow v → Takes v next w → (w.count ≡ suc a.flow.count) × (w.seen ≡ shown_after (moment_of next) edits a.flow.seen)
  seen_after v w same taken_on =
      let is = taken_on edits (taken_same a.flow v next same.count same.seen ∙ takes) in
      (ap (λ (x : View). x.count) is ∙ ap suc same.count, ap (λ (x : View). x.seen) is ∙ ap (shown_after (moment_of next) edits) same.seen)

  pub kept_after : (v : View) (j : JournalView) (b : Inside) (entry : List ℕ) (stands : List (ℕ × ℕ)) (stand : ℕ × ℕ) → IsSameFlow a.flow v → IsSameJournal a.journal j → entry ≡ layout next
      → b.journal ≡ record j { items = j.items ++ entry ∷ []; prepared = true; spare = 0 } → Takes v next b.flow → stands ≡ a.stands.items → stand ≡ stand_before a.flow.seen next
      → b.stands.items ≡ stands ++ stand ∷ [] → IsKept b
  kept_after v j b entry stands stand same_flow same_journal is now taken_on were stood pushed =
      let after = seen_after v b.flow same_flow taken_on in
      kept_more a b next edits kept fits takes (ap (λ (x : JournalView). x.file) now ∙ same_journal.file)
      (ap (λ (x : JournalView). x.items) now ∙ ap₂ (λ (l : List (List ℕ)) (e : List ℕ). l ++ e ∷ []) same_journal.items is)
      after.0 after.1 (pushed ∙ ap₂ (λ (l : List (ℕ × ℕ)) (s : ℕ × ℕ). l ++ s ∷ []) were stood)

  -- ---- at Err

  broken_view : (b : Inside) → b.journal.items ≡ a.journal.items → b.flow.seen ≡ a.flow.seen → b.journal.broken ≡ true → history_view b ≡ record (history_view a) { prepared = b.journal.prepared; broken = true }
  broken_view b items seen broken =
      ap₂ (λ (l : List (List ℕ)) (s : Shown). view_of l s b.journal.prepared b.journal.broken) items seen
      ∙ ap (λ (q : Bool). view_of a.journal.items a.flow.seen b.journal.prepared q) broken

  same_view : (j : JournalView) (b : Inside) → IsSameJournal a.journal j → b.journal ≡ j → b.flow.seen ≡ a.flow.seen → history_view b ≡ history_view a
  same_view j b same now seen =
      ap₂ (λ (x : JournalView) (s : Shown). view_of x.items s x.prepared x.broken) now seen
      ∙ ap₂ (λ (l : List (List ℕ)) (p : Bool). view_of l a.flow.seen p j.broken) same.items same.prepared
      ∙ ap (λ (q : Bool). view_of a.journal.items a.flow.seen a.journal.prepared q) same.broken

  pub refuses_append : (e : EngineError) (j : JournalView) (b : Inside) (entry : List ℕ) (old new : SiteView) → IsSameJournal a.journal j → entry ≡ layout next → passed a.flow.seen edits ≡ None
      → a.journal.broken ≡ false → MayAppend j entry old new → b.journal.items ≡ j.items → b.flow.seen ≡ a.flow.seen → RefusesEntry j b.journal entry e old new
      → Refuses (history_view a) (history_view b) (Is next) e old new
  unfolding comes
  refuses_append refused.Disk j b entry old new same is none whole appends items seen h =
      (offers j entry old new same is none whole h.1 appends, broken_view b (items ∙ same.items) seen h.0, h.2)
  refuses_append (refused.Damaged place) j b entry old new same is none whole appends items seen h = absurd h
  refuses_append (refused.OtherRun held asked) j b entry old new same is none whole appends items seen h = absurd h
  refuses_append (refused.OtherBook index) j b entry old new same is none whole appends items seen h = absurd h
  refuses_append (refused.Limit what) j b entry old new same is none whole appends items seen h =
      let passes : limit_of (history_view a) next edits ≡ Some what = limit_journal j entry same is none h.1 ∙ ap (λ (x : LimitKind). Some x) (sym h.0) in
      (record { comes = comes; passes = passes; whole = whole }, same_view j b same h.2 seen, h.3)
  refuses_append refused.Broken j b entry old new same is none whole appends items seen h = absurd h
  refuses_append refused.Memory j b entry old new same is none whole appends items seen h = absurd h

-- what comes next changes something
pub taken_now : (h : Inside) (v : HistoryView) (next : Record) → IsKept h → history_view h ≡ v → IsSome (taken (flow_of v) next) → (edits : List Edit) × (taken h.flow next ≡ Some edits)
taken_now h v next kept is comes =
    let here : IsSome (taken (flow_of (history_view h)) next) = subst (λ (x : HistoryView). IsSome (taken (flow_of x) next)) (sym is) comes in
    let found = some_value (taken (flow_of (history_view h)) next) here in
    (found.0, taken_same (flow_of (history_view h)) h.flow next kept.count refl ∙ found.1)

-- no limit of the flow is passed
pub none_passed : (v : View) (next : Record) (edits : List Edit) → taken v next ≡ Some edits → option_and_then (passed v.seen) (taken v next) ≡ None → passed v.seen edits ≡ None
none_passed v next edits e h = sym (ap (option_and_then (passed v.seen)) e) ∙ h

-- ---- the record of a move

some_bound : {A B : Type 0} (f : A → Option B) (o : Option A) (b : B) → option_and_then f o ≡ Some b → (x : A) × (o ≡ Some x) × (f x ≡ Some b)
some_bound f None b e = absurd (none-some b e)
some_bound f (Some x) b e = (x, refl, e)

-- whether it is taken goes by the number of the records and by what is shown
taken_by_same : (v w : View) (step : Move) (moment : ℕ) → w.count ≡ v.count → w.seen ≡ v.seen → taken_by w moment step ≡ taken_by v moment step
taken_by_same v w step moment count seen =
    ap₂ (λ (n : ℕ) (s : Shown). option_and_then (λ (r : Record). cond (not (n == 0)) (change s r) (begins s r)) (record_of s moment step)) count seen

pub may_move_now : (h : Inside) (v : HistoryView) (step : Move) (moment : ℕ) → IsKept h → history_view h ≡ v → MayMove (flow_of v) step moment → MayMove h.flow step moment
may_move_now h v step moment kept is may =
    let here : MayMove (flow_of (history_view h)) step moment = subst (λ (x : HistoryView). MayMove (flow_of x) step moment) (sym is) may in
    let same : taken_by h.flow moment step ≡ taken_by (flow_of (history_view h)) moment step = taken_by_same (flow_of (history_view h)) h.flow step moment kept.count refl in
    record {
      comes = subst IsSome (sym same) here.comes;
      in_range = λ next made text none. here.in_range next made text (ap (option_and_then (passed h.flow.seen)) (sym same) ∙ none);
    }

-- what it changes
pub move_takes : (v : View) (step : Move) (moment : ℕ) (next : Record) → record_of v.seen moment step ≡ Some next → IsSome (taken_by v moment step)
    → (edits : List Edit) × (taken v next ≡ Some edits) × (taken_by v moment step ≡ Some edits)
move_takes v step moment next made comes =
    let found = some_value (taken_by v moment step) comes in
    (found.0, taken_made v moment step next found.0 made found.1, found.1)

pub move_within : (v : View) (step : Move) (moment : ℕ) (edits : List Edit) → taken_by v moment step ≡ Some edits → option_and_then (passed v.seen) (taken_by v moment step) ≡ None → passed v.seen edits ≡ None
move_within v step moment edits e h = sym (ap (option_and_then (passed v.seen)) e) ∙ h

move_comes : (h : Inside) (step : Move) (moment : ℕ) (edits : List Edit) → IsKept h → taken_by h.flow moment step ≡ Some edits → MayCome (history_view h) (IsOfMove (history_view h) step moment)
move_comes h step moment edits kept e =
    let found = some_bound (taken h.flow) (record_of h.flow.seen moment step) edits e in
    record {
      next = found.0;
      edits = edits;
      is = found.1;
      takes = taken_same h.flow (flow_of (history_view h)) found.0 (sym kept.count) refl ∙ found.2;
    }

-- no room was made for it
pub refuses_move : (h : Inside) (step : Move) (moment : ℕ) → IsKept h → IsSome (taken_by h.flow moment step) → (e : EngineError) (k : HistoryView) (site : SiteView) → h.journal.broken ≡ false → k ≡ history_view h
    → RefusesRoom h.flow (taken_by h.flow moment step) e → Refuses (history_view h) k (IsOfMove (history_view h) step moment) e site site
unfolding move_comes
refuses_move h step moment kept comes e k site whole same r =
    let found = some_value (taken_by h.flow moment step) comes in
    refuses_early (IsOfMove (history_view h) step moment) h (move_comes h step moment found.0 kept found.1) e k site whole same
    (subst (λ (o : Option (List Edit)). RefusesRoom h.flow o e) found.1 r)

-- it is that record
pub is_of_move : (h : HistoryView) (step : Move) (moment : ℕ) (next : Record) → record_of h.seen moment step ≡ Some next → (r : Record) → Is next r → IsOfMove h step moment r
is_of_move h step moment next made r is = made ∙ ap (λ (x : Record). Some x) (sym is)
