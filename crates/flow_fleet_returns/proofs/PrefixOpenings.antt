-- The journals of a fleet that were opened.
use Rattle.std.proofs.Common.{◌≡◌, ◌≢◌, ◌⊎◌, inl, inr, ℕ, zero, suc, ◌+◌, ◌<◌, ◌≤◌, ◌==◌, Bool, true, false, List, [], ◌∷◌, ◌++◌, length, refl, sym, ◌∙◌, subst, ap, IsTrue, arith, length-append}
use Rattle.std.specs.Prelude.{Some, slice_get, if◌then◌else◌}
use Rattle.std.proofs.lemmas.Bool.{eqb-true}
use Rattle.cacao_site.specs.DiskCalls.{GoesOn, IsLeft, OnlyFile, SameRest, StaysAt}
use Rattle.cacao_site.specs.RunViews.{file_of}
use Rattle.cacao_site.specs.View.{ClockView, SiteView}
use Rattle.cacao_site.proofs.Beats.{goes_on-refl, goes_on-trans, stays-trans, told-goes_on}
use Rattle.run_records.specs.declared.record.Record.{Record}
use Rattle.flow_core_rules.specs.Givens.{Given}
use Rattle.flow_engine.specs.EngineView.{EngineView}
use Rattle.flow_laws.specs.Images.{IsRecords}
use Rattle.flow_laws.proofs.OneList.{records_of_layout}
use Rattle.flow_world_steps.proofs.Growth.{get_last_or}
use Rattle.flow_world_steps.proofs.Issues.{below}
use Rattle.flow_world_parts.specs.Openings.{IsJournalOpen}
use Rattle.flow_fleet_laws.specs.Fleets.{IsAt}
use Rattle.flow_fleet_laws.specs.Views.{seen_from}
use Rattle.flow_fleet_laws.proofs.Seen.{file_is}
use Rattle.flow_fleet_steps.specs.Openings.{OpensJournals, Runs, numbers}
use Rattle.flow_fleet_steps.specs.Openings.OpensJournals.{nothing as no_journal, and_then as one_journal}
use Rattle.flow_fleet_steps.specs.Turns.{StandsAt}
use Rattle.flow_fleet_steps.specs.Worlds.{EachRun}
use Rattle.flow_fleet_steps.proofs.Back.{only_back}
use Rattle.flow_fleet_sums.specs.Sums.{of_place}
use Rattle.flow_fleet_returns.proofs.PrefixSteps.{own_files, stands_on, stays_same}

-- ---- lists

-- of records with the places of their runs, those of one place are no more than all
pub place_few : (place : ℕ) (added : List (ℕ × Record)) → length (of_place place added) ≤ length added
place_few place [] = omega arith
place_few place (e ∷ added) = by (e.0 == place) (place_few place added)
  where
    by : (b : Bool) → length (of_place place added) ≤ length added → length (if b then e.1 ∷ of_place place added else of_place place added) ≤ length (e ∷ added)
    by true rest = omega (arith, rest)
    by false rest = omega (arith, rest)

-- a run that has a place
pub at_low : (runs : Runs) (place run : ℕ) → IsAt (numbers runs) place run → place < length runs
at_low [] place run at = absurd (cc)
at_low (one ∷ runs) zero run at = omega arith
at_low (one ∷ runs) (suc place) run at = let rest = at_low runs place run at in omega (arith, rest)

pub at_place : (runs : Runs) (place : ℕ) → place < length runs → (run : ℕ) × IsAt (numbers runs) place run
at_place [] place lt = absurd (omega (arith, lt))
at_place (one ∷ runs) zero lt = (one.0, refl)
at_place (one ∷ runs) (suc place) lt = at_place runs place (omega (arith, lt))

-- two places are one, or not
pub same_or_not : (k n : ℕ) → (k ≡ n) ⊎ (k ≢ n)
same_or_not k n = by (k == n) refl
  where
    by : (b : Bool) → (k == n) ≡ b → (k ≡ n) ⊎ (k ≢ n)
    by true e = inl (eqb-true k n e)
    by false e = inr (λ same. absurd (grind (arith, e, same)))

-- ---- journals that were opened

-- The journals at the places below n were opened: each reads as at the start, as the records of its engine. Those at n and beyond stay.
pub record AreOpened (start site : SiteView) (n : ℕ) (engines : List EngineView) : Type 0 where
  pub on : GoesOn start.disk site.disk
  pub steady : site.disk.faults ≡ start.disk.faults
  pub now : site.clock.now ≡ start.clock.now
  pub many : length engines ≡ n
  pub stands : EachRun engines (StandsAt site)
  pub stood : EachRun engines (λ k v. IsRecords (start.disk.reads (file_of k)) v.history.records)
  pub reads : (k : ℕ) → site.disk.reads (file_of k) ≡ start.disk.reads (file_of k)
  pub later : (k : ℕ) → n ≤ k → StaysAt start.disk site.disk (file_of k)

now_of : (old new : SiteView) → SameRest old new → new.clock.now ≡ old.clock.now
now_of old new rest = ap (λ (c : ClockView). c.now) rest.clock

length_last : (before : List EngineView) (v : EngineView) → length (before ++ v ∷ []) ≡ length before + 1
length_last before v = length-append before (v ∷ [])

module _ (start old new : SiteView) (told : IsTrue start.disk.told) (n : ℕ) (before : List EngineView) (was : AreOpened start old n before) (run : ℕ) (given : Given) (v : EngineView)
    (is : IsJournalOpen given run (seen_from n old) (seen_from n new) v) where
  back : OnlyFile (file_of n) old new (IsLeft (seen_from n old).disk 0 (seen_from n old).disk.beat)
  back = only_back n _ old new is.opens.only

  stays_other : (k : ℕ) → k ≢ n → StaysAt old.disk new.disk (file_of k)
  stays_other k ne = back.others (file_of k) (own_files n k ne)

  reads_on : (k : ℕ) → new.disk.reads (file_of k) ≡ start.disk.reads (file_of k)
  reads_on k = elim (same_or_not k n) [
    | inl same ↦ subst (λ (m : ℕ). new.disk.reads (file_of m) ≡ start.disk.reads (file_of m)) (sym same) (is.reads ∙ was.reads n)
    | inr ne ↦ (stays_other k ne).reads ∙ was.reads k
  ]

  stood_here : IsRecords (start.disk.reads (file_of n)) v.history.records
  stood_here = subst (λ (i : List ℕ). IsRecords i v.history.records) (reads_on n)
      (records_of_layout (new.disk.reads (file_of n)) v.history.records is.whole.engine.history.ranges (is.stands (told-goes_on was.on told)))

  at_last : (k : ℕ) (x : EngineView) → slice_get (before ++ v ∷ []) k ≡ Some x → (P : ℕ → EngineView → Type 0) → ((j : ℕ) (y : EngineView) → j < n → slice_get before j ≡ Some y → P j y) → P n v → P k x
  at_last k x at P earlier here = elim (get_last_or before v x k at) [
    | inl there ↦ earlier k x (let lt = below before k x there in let many = was.many in omega (arith, lt, many)) there
    | inr last ↦ subst (λ (m : ℕ). P m x) (sym (last.0 ∙ was.many)) (subst (λ (y : EngineView). P n y) last.1 here)
  ]

  pub opened_more : AreOpened start new (n + 1) (before ++ v ∷ [])
  opened_more = record {
    on = goes_on-trans was.on back.each.goes_on;
    steady = is.steady ∙ was.steady;
    now = now_of old new back.rest ∙ was.now;
    many = length_last before v ∙ ap (λ (k : ℕ). k + 1) was.many;
    stands = λ k x at. at_last k x at (StandsAt new)
        (λ j y lt there. stands_on j y old new back.each.goes_on (stays_other j (λ e. absurd (omega (arith, e, lt)))) (was.stands j y there)) is.whole;
    stood = λ k x at. at_last k x at (λ j y. IsRecords (start.disk.reads (file_of j)) y.history.records) (λ j y lt there. was.stood j y there) stood_here;
    reads = reads_on;
    later = λ k le. stays-trans was.on back.each.goes_on (was.later k (omega (arith, le))) (stays_other k (λ e. absurd (omega (arith, e, le))));
  }

pub journals_opened : (runs : Runs) (start : SiteView) (n : ℕ) (site : SiteView) (engines : List EngineView) → IsTrue start.disk.told → OpensJournals runs start n site engines → AreOpened start site n engines
journals_opened runs start n site engines told no_journal = record {
  on = goes_on-refl start.disk;
  steady = refl;
  now = refl;
  many = refl;
  stands = λ k v at. absurd (cc);
  stood = λ k v at. absurd (cc);
  reads = λ k. refl;
  later = λ k le. stays_same start (file_of k);
}
journals_opened runs start many site engines told (one_journal {n} {old} {new} {before} run given v was there is) =
    opened_more start old new told n before (journals_opened runs start n old before told was) run given v is

-- no filter's file is a journal
pub beyond : (n k : ℕ) → n ≤ 16 → (file_of k ≡ 0) ⊎ (n < file_of k)
beyond n k few = elim (file_is k) [ inl first ↦ inl first.1 | inr other ↦ let low = other.0 in let is = other.1 in inr (omega (arith, low, is, few)) ]

-- files of filters were opened since
pub filters_after : (start mid new : SiteView) (n : ℕ) (engines : List EngineView) → AreOpened start mid n engines → GoesOn mid.disk new.disk → new.disk.faults ≡ mid.disk.faults → SameRest mid new
    → ((k : ℕ) → StaysAt mid.disk new.disk (file_of k)) → AreOpened start new n engines
filters_after start mid new n engines was on steady rest files = record {
  on = goes_on-trans was.on on;
  steady = steady ∙ was.steady;
  now = now_of mid new rest ∙ was.now;
  many = was.many;
  stands = λ k v at. stands_on k v mid new on (files k) (was.stands k v at);
  stood = was.stood;
  reads = λ k. (files k).reads ∙ was.reads k;
  later = λ k le. stays-trans was.on on (was.later k le) (files k);
}
