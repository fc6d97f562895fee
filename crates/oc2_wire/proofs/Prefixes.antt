-- The run before a session of the engine's end and the run on return.
use Rattle.std.proofs.Common.{◌≡◌, ◌≢◌, inl, inr, ℕ, ◌+◌, ◌≤◌, List, [], ◌∷◌, ◌++◌, length, refl, sym, ◌∙◌, subst, ap, IsTrue, arith, length-append}
use Rattle.std.specs.Prelude.{Option, Some, IfErr, IfOk, Result, Ok, Err}
use Rattle.std.specs.List.{AllByRecursion}
use Rattle.std.proofs.lemmas.List.{append-nil, append_assoc}
use Rattle.cacao_site.specs.Counts.{DidNotRise, Rose}
use Rattle.cacao_site.specs.DiskCalls.{IsLeft}
use Rattle.cacao_site.specs.Sound.{IsSound}
use Rattle.cacao_site.specs.View.{SiteView}
use Rattle.run_records.specs.Ranges.{InRange}
use Rattle.run_records.specs.declared.record.Record.{Record}
use Rattle.flow_core_rules.specs.Givens.{Given}
use Rattle.flow_engine_answers.specs.declared.answers.OperatorAnswer.{OperatorAnswer}
use Rattle.flow_engine_history.specs.Openings.{IsRefusedOpening}
use Rattle.flow_engine_history.specs.declared.error.EngineError.{EngineError}
use Rattle.flow_engine_history.specs.declared.error.EngineError.TheVariants as refused_as
use Rattle.flow_laws.specs.Images.{IsRecords, StandsFor}
use Rattle.flow_laws.specs.Journals.{IsJournalRun}
use Rattle.flow_laws.proofs.OneList.{records_of_layout, same_records}
use Rattle.flow_world_steps.specs.Causes.{Shows}
use Rattle.flow_world_steps.specs.Sides.{HoldsWithUnsure}
use Rattle.flow_world_steps.specs.Unbroken.{IsJournalSure}
use Rattle.flow_world_steps.specs.Unsure.{UnsureByStep}
use Rattle.flow_world_steps.specs.Worlds.{Phase}
use Rattle.flow_world_steps.proofs.Records.{has_records}
use Rattle.flow_world_parts.specs.Errors.{opening_refusal}
use Rattle.flow_world_parts.specs.declared.close.Close.{Close}
use Rattle.flow_world_parts.specs.declared.error.WorldError.TheVariants as error
use Rattle.flow_world_laws.specs.Prefixes.{AddsNothing, GoesOn, GoesOnDurably}
use Rattle.oc2_wire_laws.specs.Ends.{EngineKeeps, IsRunFrom}
use Rattle.oc2_wire_laws.specs.Since.{EngineKeepsSince, taken_before, takes_of}
use Rattle.oc2_wire_steps.specs.Kept.{IsToldStart}
use Rattle.oc2_wire.specs.Serving.{HasRefused, HasServed, RefusesFirst, Serves}
use Rattle.oc2_wire.specs.declared.error.WireError.{WireError}

all_more : {A : Type 0} (P : A → Type 0) (xs : List A) (x : A) → AllByRecursion P xs → P x → AllByRecursion P (xs ++ x ∷ [])
all_more P [] x all is = (is, tt)
all_more P (y ∷ xs) x all is = (all.0, all_more P xs x all.1 is)

-- where no call of the disk failed, the opening was not refused because one did
not_disk : (why : EngineError) (given : Given) (run : ℕ) (old new : SiteView) → IsRefusedOpening given run why old new → DidNotRise old.disk.faults new.disk.faults
    → opening_refusal why ≢ error.Disk
not_disk refused_as.Disk given run old new is calm e = absurd (omega (arith, is, calm.0, calm.1))
not_disk (refused_as.Damaged place) given run old new is calm e = let f : error.Damaged 0 place ≡ error.Disk = e in cc
not_disk (refused_as.OtherRun held asked) given run old new is calm e = let f : error.OtherRun held asked ≡ error.Disk = e in cc
not_disk (refused_as.OtherBook index) given run old new is calm e = let f : error.OtherBook index ≡ error.Disk = e in cc
not_disk (refused_as.Limit what) given run old new is calm e = let f : error.Limit what ≡ error.Disk = e in cc
not_disk refused_as.Memory given run old new is calm e = let f : error.Memory ≡ error.Disk = e in cc
not_disk refused_as.Broken given run old new is calm e = absurd is

module _ (run most : ℕ) (old new : SiteView) (sound_old : IsSound old) (sound : IsSound new) (start : IsToldStart old run) (kept : EngineKeepsSince old run new) where
  stands_now : (image : List ℕ) → IsLeft new.disk 0 new.disk.beat image → StandsFor image (IsRunFrom old run (taken_before (takes_of old) new new.disk.beat))
  stands_now = (kept.each new.disk.beat kept.later (omega arith)).journal

  run_now : (image : List ℕ) (records : List Record) → IsLeft new.disk 0 new.disk.beat image → IsRecords image records → IsJournalRun records
  run_now image records left are =
      let stands = stands_now image left in
      subst (λ (l : List Record). IsJournalRun l) (same_records image stands.records records stands.are are) stands.so.is_run

  -- ---- its file was opened

  module _ (given : Given) (answers : List OperatorAnswer) (s : Serves given run most answers old new) where
    stood : IsRecords (old.disk.reads 0) s.start.engine.history.records
    stood =
        let records = s.start.engine.history.records in
        subst (λ (i : List ℕ). IsRecords i records) s.journal.reads
        (records_of_layout (s.start.site.disk.reads 0) records s.journal.whole.engine.history.ranges (s.journal.stands start.told))

    told_there : IsTrue s.to.site.disk.told
    told_there = subst (λ (x : SiteView). IsTrue x.disk.told) (sym s.to_is) kept.told

    left_there : (image : List ℕ) → IsLeft new.disk 0 new.disk.beat image → IsLeft s.to.site.disk 0 s.to.site.disk.beat image
    left_there image left = subst (λ (x : SiteView). IsLeft x.disk 0 x.disk.beat image) (sym s.to_is) left

    goes_by : (added : List Record) → length added ≤ most → IsRecords (new.disk.reads 0) (s.start.engine.history.records ++ added) → GoesOn most old new
    goes_by added few reads = record {
      before = s.start.engine.history.records;
      image = old.disk.reads 0;
      left = sound_old.reads 0 start.told;
      stood = stood;
      from_read = λ calm. stood;
      added = added;
      reads = reads;
      is_run = run_now (new.disk.reads 0) (s.start.engine.history.records ++ added) (sound.reads 0 kept.told) reads;
      few = few;
    }

    -- each image stands for the engine's records
    sure_goes : IsJournalSure s.to → GoesOnDurably most old new
    unfolding goes_by
    sure_goes sure =
        let each : (image : List ℕ) → IsLeft new.disk 0 new.disk.beat image → IsRecords image (s.start.engine.history.records ++ s.sums.adds.added) =
        λ image left. subst (λ (l : List Record). IsRecords image l) s.sums.adds.is (has_records s.to.engine s.to.site sure.whole told_there image (left_there image left)) in
        record {
          goes_on = goes_by s.sums.adds.added (let budget = s.sums.budget in omega (arith, budget)) (each (new.disk.reads 0) (sound.reads 0 kept.told));
          was_read = stood;
          durable = λ calm. each;
        }

    -- the disk failed in the last step
    fault_rose : (r : Record) → UnsureByStep s.start s.to r → DidNotRise old.disk.faults new.disk.faults → ⊥
    fault_rose r by calm =
        let rose : Rose s.start.site.disk.faults s.to.site.disk.faults = subst (λ (p : Phase). Shows p s.start s.to) by.phase s.cause.shows in
        let now = ap (λ (x : SiteView). x.disk.faults) s.to_is in
        let risen : Rose old.disk.faults new.disk.faults =
        subst (λ (n : ℕ). Rose n new.disk.faults) s.journal.steady (subst (λ (n : ℕ). Rose s.start.site.disk.faults n) now rose) in
        absurd (omega (arith, risen, calm.0, calm.1))

    unsure_goes : (r : Record) → UnsureByStep s.start s.to r → GoesOnDurably most old new
    unfolding goes_by
    unsure_goes r by =
        let records = s.to.engine.history.records in
        let holds : HoldsWithUnsure records (Some r) (new.disk.reads 0) = subst (λ (o : Option Record). HoldsWithUnsure records o (new.disk.reads 0)) by.has
        (s.sums.journal.holds told_there (new.disk.reads 0) (left_there (new.disk.reads 0) (sound.reads 0 kept.told))) in
        let ranges = s.sums.journal.engine.history.ranges in
        let few : length s.sums.adds.added + s.to.notes.left ≡ most = s.sums.budget in
        let in_range : InRange r = subst (λ (x : Record). InRange x) by.offers.comes.is by.offers.in_range in
        elim holds [
          | inl is ↦ record {
            goes_on = goes_by s.sums.adds.added (omega (arith, few)) (subst (λ (l : List Record). IsRecords (new.disk.reads 0) l) s.sums.adds.is (records_of_layout (new.disk.reads 0) records ranges is));
            was_read = stood;
            durable = λ calm. absurd (fault_rose r by calm);
          }
          | inr is ↦
              let more : records ++ r ∷ [] ≡ s.start.engine.history.records ++ (s.sums.adds.added ++ r ∷ []) =
              ap (λ (l : List Record). l ++ r ∷ []) s.sums.adds.is ∙ append_assoc s.start.engine.history.records s.sums.adds.added (r ∷ []) in
              record {
                goes_on = goes_by (s.sums.adds.added ++ r ∷ []) (omega (arith, few, by.budget, length-append s.sums.adds.added (r ∷ [])))
                    (subst (λ (l : List Record). IsRecords (new.disk.reads 0) l) more (records_of_layout (new.disk.reads 0) (records ++ r ∷ []) (all_more InRange records r ranges in_range) is));
                was_read = stood;
                durable = λ calm. absurd (fault_rose r by calm);
              }
        ]

    pub serves_goes : GoesOnDurably most old new
    serves_goes = elim s.sums.unbroken.journal [
      | inl sure ↦ sure_goes sure
      | inr over ↦ unsure_goes over.0 over.1
    ]

  -- ---- or it was not

  pub first_adds_nothing : (refusal : WireError) (given : Given) → RefusesFirst refusal given run old new → AddsNothing most old new
  first_adds_nothing refusal given first =
      let is = first.journal in
      let now = sound.reads 0 kept.told in
      let was : IsLeft old.disk 0 old.disk.beat (new.disk.reads 0) = is.opens.only.each.each start.told new.disk.beat (new.disk.reads 0) is.opens.only.each.goes_on.later (omega arith) now in
      let stands = start.start.keeps.journal (new.disk.reads 0) was in
      let reads : IsRecords (new.disk.reads 0) (stands.records ++ []) = subst (λ (l : List Record). IsRecords (new.disk.reads 0) l) (sym (append-nil stands.records)) stands.are in
      record {
        goes_on = record {
          before = stands.records;
          image = new.disk.reads 0;
          left = was;
          stood = stands.are;
          from_read = λ calm. subst (λ (i : List ℕ). IsRecords i stands.records) (is.reads (λ e. not_disk is.why given run old new is.refused calm (sym is.is ∙ e))) stands.are;
          added = [];
          reads = reads;
          is_run = run_now (new.disk.reads 0) (stands.records ++ []) now reads;
          few = omega arith;
        };
        none = refl;
      }

  pub refused_goes : (refusal : WireError) (given : Given) (answers : List OperatorAnswer) → HasRefused refusal given run most answers old new → GoesOn most old new
  refused_goes refusal given answers (inl first) = (first_adds_nothing refusal given first).goes_on
  refused_goes refusal given answers (inr later) = (serves_goes given answers later.serves).goes_on

  -- ---- whatever it answered

  pub each_goes : (given : Given) (answers : List OperatorAnswer) (result : Result Close WireError) → IfOk result (λ close. HasServed close given run most answers old new)
      → IfErr result (λ refusal. HasRefused refusal given run most answers old new) → GoesOn most old new
  each_goes given answers (Ok close) served_so refused_so = (serves_goes given answers served_so.serves).goes_on
  each_goes given answers (Err refusal) served_so refused_so = refused_goes refusal given answers refused_so

pub each_nothing : (run most : ℕ) (old new : SiteView) → IsSound old → IsSound new → (IsToldStart old run → EngineKeepsSince old run new) → (given : Given) (result : Result Close WireError)
    → IfErr result (λ refusal. IsToldStart old run → RefusesFirst refusal given run old new → AddsNothing most old new)
each_nothing run most old new sound_old sound kept given (Ok close) = tt
each_nothing run most old new sound_old sound kept given (Err refusal) = λ told first. first_adds_nothing run most old new sound_old sound told (kept told) refusal given first
