-- The run before a session and the run on return.
use Rattle.std.proofs.Common.{◌≡◌, ◌≢◌, ◌⊎◌, inl, inr, ℕ, ◌+◌, ◌≤◌, List, [], ◌∷◌, ◌++◌, length, refl, sym, ◌∙◌, subst, ap, IsTrue, arith, length-append}
use Rattle.std.specs.Prelude.{Option, Some, None}
use Rattle.std.specs.List.{AllByRecursion}
use Rattle.std.proofs.lemmas.List.{append-nil, append_assoc}
use Rattle.cacao_site.specs.Counts.{DidNotRise, Rose}
use Rattle.cacao_site.specs.DiskCalls.{IsLeft, StaysAt}
use Rattle.cacao_site.specs.Sound.{IsSound}
use Rattle.cacao_site.specs.View.{SiteView}
use Rattle.run_records.specs.Ranges.{InRange}
use Rattle.run_records.specs.declared.record.Record.{Record}
use Rattle.flow_core_rules.specs.Givens.{Given}
use Rattle.flow_world_steps.specs.EngineView.{EngineView}
use Rattle.flow_engine_answers.specs.declared.answers.OperatorAnswer.{OperatorAnswer}
use Rattle.flow_laws.specs.Good.{IsChoice, IsGood}
use Rattle.flow_laws.specs.Images.{IsRecords}
use Rattle.flow_laws.specs.Journals.{IsJournalRun}
use Rattle.flow_laws.proofs.Basics.{put_at, put_at-each, put_at-same}
use Rattle.flow_laws.proofs.OneList.{records_of_layout, same_records}
use Rattle.flow_world_steps.specs.Causes.{Shows}
use Rattle.flow_world_steps.specs.Sides.{HoldsWithUnsure}
use Rattle.flow_world_steps.specs.Unbroken.{IsJournalSure}
use Rattle.flow_world_steps.specs.Unsure.{UnsureByStep}
use Rattle.flow_world_steps.specs.Worlds.{Phase, disk_failed, refused}
use Rattle.flow_world_steps.proofs.Records.{has_records}
use Rattle.flow_world.specs.Sessions.{IsStart, KeepsAgreement, Went}
use Rattle.flow_engine_history.specs.Openings.{IsRefusedOpening}
use Rattle.flow_engine_history.specs.declared.error.EngineError.{EngineError}
use Rattle.flow_engine_history.specs.declared.error.EngineError.TheVariants as refused_as
use Rattle.flow_world.specs.Errors.{opening_refusal}
use Rattle.flow_world.specs.Openings.{IsJournalOpen, RefusesFilters, RefusesJournal, RefusesSecond}
use Rattle.flow_world.specs.WorldError.{WorldError}
use Rattle.flow_world.specs.WorldError.TheVariants as error
use Rattle.flow_world_laws.specs.Prefixes.{AddsNothing, EachCloseGoesOn, EachLaterRefusalGoesOn, EachRefusalGoesOn, EachRefusedOpeningAddsNothing, EachSecondRefusalGoesOn, GoesOn, GoesOnDurably}

-- ---- what each image stands for, where all agrees

module _ (site : SiteView) (sound : IsSound site) (told : IsTrue site.disk.told) (good : IsGood site site.disk.beat) where
  with_image : (image : List ℕ) → IsLeft site.disk 0 site.disk.beat image → IsChoice site site.disk.beat (put_at 0 image (λ file. site.disk.reads file))
  with_image image left = λ other le. put_at-each (λ (n : ℕ) (l : List ℕ). IsLeft site.disk n site.disk.beat l) 0 image (λ file. site.disk.reads file) other
      (λ e. subst (λ (n : ℕ). IsLeft site.disk n site.disk.beat image) (sym e) left)
      (λ ne. sound.reads other told)

  good_records : (image : List ℕ) → IsLeft site.disk 0 site.disk.beat image → (records : List Record) × IsRecords image records
  good_records image left =
      let g = good.each (put_at 0 image (λ file. site.disk.reads file)) (with_image image left) in
      (g.records, subst (λ (l : List ℕ). IsRecords l g.records) (put_at-same 0 image (λ file. site.disk.reads file)) g.are_records)

  good_run : (image : List ℕ) (records : List Record) → IsLeft site.disk 0 site.disk.beat image → IsRecords image records → IsJournalRun records
  good_run image records left are =
      let g = good.each (put_at 0 image (λ file. site.disk.reads file)) (with_image image left) in
      let here : IsRecords image g.records = subst (λ (l : List ℕ). IsRecords l g.records) (put_at-same 0 image (λ file. site.disk.reads file)) g.are_records in
      subst (λ (l : List Record). IsJournalRun l) (same_records image g.records records here are) g.agree.is_run

all_more : {A : Type 0} (P : A → Type 0) (xs : List A) (x : A) → AllByRecursion P xs → P x → AllByRecursion P (xs ++ x ∷ [])
all_more P [] x all is = (is, tt)
all_more P (y ∷ xs) x all is = (all.0, all_more P xs x all.1 is)

-- where no call of the disk failed, the journal's opening was not refused because it did
not_disk : (why : EngineError) (given : Given) (run : ℕ) (old new : SiteView) → IsRefusedOpening given run why old new → DidNotRise old.disk.faults new.disk.faults
    → opening_refusal why ≢ error.Disk
not_disk refused_as.Disk given run old new is calm e = absurd (omega (arith, is, calm.0, calm.1))
not_disk (refused_as.Damaged place) given run old new is calm e = let f : error.Damaged 0 place ≡ error.Disk = e in cc
not_disk (refused_as.OtherRun held asked) given run old new is calm e = let f : error.OtherRun held asked ≡ error.Disk = e in cc
not_disk (refused_as.OtherBook index) given run old new is calm e = let f : error.OtherBook index ≡ error.Disk = e in cc
not_disk (refused_as.Limit what) given run old new is calm e = let f : error.Limit what ≡ error.Disk = e in cc
not_disk refused_as.Memory given run old new is calm e = let f : error.Memory ≡ error.Disk = e in cc
not_disk refused_as.Broken given run old new is calm e = absurd is

-- ---- a session

module _ (given : Given) (run most : ℕ) (answers : List OperatorAnswer) (old new : SiteView) (sound_old : IsSound old) (sound : IsSound new) (start : IsStart old run)
    (keeps : KeepsAgreement old new) where
  run_now : (image : List ℕ) (records : List Record) → IsLeft new.disk 0 new.disk.beat image → IsRecords image records → IsJournalRun records
  run_now = good_run new sound keeps.told (keeps.each new.disk.beat keeps.later (omega arith)).good

  -- file 0 reads as it did, and as these records
  none_more : (before : List Record) → IsRecords (old.disk.reads 0) before → new.disk.reads 0 ≡ old.disk.reads 0 → GoesOn most old new
  none_more before stood same =
      let reads : IsRecords (new.disk.reads 0) (before ++ []) = subst (λ (l : List Record). IsRecords (new.disk.reads 0) l) (sym (append-nil before))
      (subst (λ (i : List ℕ). IsRecords i before) (sym same) stood) in
      record {
        before = before;
        image = old.disk.reads 0;
        left = sound_old.reads 0 start.told;
        stood = stood;
        from_read = λ calm. stood;
        added = [];
        reads = reads;
        is_run = run_now (new.disk.reads 0) (before ++ []) (sound.reads 0 keeps.told) reads;
        few = omega arith;
      }

  -- what an open journal stands for, it stood for at the start
  open_stood : (middle : SiteView) (v : EngineView) → (is : IsJournalOpen given run old middle v) → IsRecords (old.disk.reads 0) v.history.records
  open_stood middle v is = subst (λ (i : List ℕ). IsRecords i v.history.records) is.reads
      (records_of_layout (middle.disk.reads 0) v.history.records is.whole.engine.history.ranges (is.stands start.told))

  -- all files were opened
  module _ (went : Went given run most answers old new) where
    stood : IsRecords (old.disk.reads 0) went.start.engine.history.records
    stood = open_stood went.files.middle went.start.engine went.files.journal

    told_there : IsTrue went.to.site.disk.told
    told_there = subst (λ (s : SiteView). IsTrue s.disk.told) (sym went.to_is) keeps.told

    left_there : (image : List ℕ) → IsLeft new.disk 0 new.disk.beat image → IsLeft went.to.site.disk 0 went.to.site.disk.beat image
    left_there image left = subst (λ (s : SiteView). IsLeft s.disk 0 s.disk.beat image) (sym went.to_is) left

    goes_by : (added : List Record) → length added ≤ most → IsRecords (new.disk.reads 0) (went.start.engine.history.records ++ added) → GoesOn most old new
    goes_by added few reads = record {
      before = went.start.engine.history.records;
      image = old.disk.reads 0;
      left = sound_old.reads 0 start.told;
      stood = stood;
      from_read = λ calm. stood;
      added = added;
      reads = reads;
      is_run = run_now (new.disk.reads 0) (went.start.engine.history.records ++ added) (sound.reads 0 keeps.told) reads;
      few = few;
    }

    -- each image stands for the engine's records
    sure_goes : IsJournalSure went.to → GoesOnDurably most old new
    unfolding goes_by
    sure_goes sure =
        let each : (image : List ℕ) → IsLeft new.disk 0 new.disk.beat image → IsRecords image (went.start.engine.history.records ++ went.sums.adds.added) =
        λ image left. subst (λ (l : List Record). IsRecords image l) went.sums.adds.is (has_records went.to.engine went.to.site sure.whole told_there image (left_there image left)) in
        record {
          goes_on = goes_by went.sums.adds.added (let budget = went.sums.budget in omega (arith, budget)) (each (new.disk.reads 0) (sound.reads 0 keeps.told));
          was_read = stood;
          durable = λ calm. each;
        }

    -- the disk failed in the last step
    fault_rose : (r : Record) → UnsureByStep went.start went.to r → DidNotRise old.disk.faults new.disk.faults → ⊥
    fault_rose r by calm =
        let rose : Rose went.start.site.disk.faults went.to.site.disk.faults = subst (λ (p : Phase). Shows p went.start went.to) by.phase went.cause.shows in
        let now = ap (λ (s : SiteView). s.disk.faults) went.to_is in
        let opened : went.start.site.disk.faults ≡ old.disk.faults = went.files.others.steady ∙ went.files.journal.steady in
        let risen : Rose old.disk.faults new.disk.faults = subst (λ (n : ℕ). Rose n new.disk.faults) opened (subst (λ (n : ℕ). Rose went.start.site.disk.faults n) now rose) in
        absurd (omega (arith, risen, calm.0, calm.1))

    unsure_goes : (r : Record) → UnsureByStep went.start went.to r → GoesOnDurably most old new
    unfolding goes_by
    unsure_goes r by =
        let records = went.to.engine.history.records in
        let holds : HoldsWithUnsure records (Some r) (new.disk.reads 0) = subst (λ (o : Option Record). HoldsWithUnsure records o (new.disk.reads 0)) by.has
        (went.sums.journal.holds told_there (new.disk.reads 0) (left_there (new.disk.reads 0) (sound.reads 0 keeps.told))) in
        let ranges = went.sums.journal.engine.history.ranges in
        let few : length went.sums.adds.added + went.to.notes.left ≡ most = went.sums.budget in
        let in_range : InRange r = subst (λ (x : Record). InRange x) by.offers.comes.is by.offers.in_range in
        elim holds [
          | inl is ↦ record {
            goes_on = goes_by went.sums.adds.added (omega (arith, few)) (subst (λ (l : List Record). IsRecords (new.disk.reads 0) l) went.sums.adds.is (records_of_layout (new.disk.reads 0) records ranges is));
            was_read = stood;
            durable = λ calm. absurd (fault_rose r by calm);
          }
          | inr is ↦
              let more : records ++ r ∷ [] ≡ went.start.engine.history.records ++ (went.sums.adds.added ++ r ∷ []) =
              ap (λ (l : List Record). l ++ r ∷ []) went.sums.adds.is ∙ append_assoc went.start.engine.history.records went.sums.adds.added (r ∷ []) in
              record {
                goes_on = goes_by (went.sums.adds.added ++ r ∷ []) (omega (arith, few, by.budget, length-append went.sums.adds.added (r ∷ [])))
                    (subst (λ (l : List Record). IsRecords (new.disk.reads 0) l) more (records_of_layout (new.disk.reads 0) (records ++ r ∷ []) (all_more InRange records r ranges in_range) is));
                was_read = stood;
                durable = λ calm. absurd (fault_rose r by calm);
              }
        ]

    pub went_goes : GoesOnDurably most old new
    went_goes = elim went.sums.unbroken.journal [
      | inl sure ↦ sure_goes sure
      | inr over ↦ unsure_goes over.0 over.1
    ]

  -- the journal was not opened
  pub journal_refused : (error : WorldError) → RefusesJournal error given run old new → AddsNothing most old new
  journal_refused error is =
      let now = sound.reads 0 keeps.told in
      let was : IsLeft old.disk 0 old.disk.beat (new.disk.reads 0) = is.opens.only.each.each start.told new.disk.beat (new.disk.reads 0) is.opens.only.each.goes_on.later (omega arith) now in
      let stood = good_records old sound_old start.told start.start.good (new.disk.reads 0) was in
      let reads : IsRecords (new.disk.reads 0) (stood.0 ++ []) = subst (λ (l : List Record). IsRecords (new.disk.reads 0) l) (sym (append-nil stood.0)) stood.1 in
      record {
        goes_on = record {
          before = stood.0;
          image = new.disk.reads 0;
          left = was;
          stood = stood.1;
          from_read = λ calm. subst (λ (i : List ℕ). IsRecords i stood.0) (is.reads (λ e. not_disk is.why given run old new is.refused calm (sym is.is ∙ e))) stood.1;
          added = [];
          reads = reads;
          is_run = run_now (new.disk.reads 0) (stood.0 ++ []) now reads;
          few = omega arith;
        };
        none = refl;
      }

  -- or a filter's file was not
  module _ (error : WorldError) (is : RefusesSecond error given run old new) where
    f : RefusesFilters error is.middle new
    f = is.refuses

    abbrev records : List Record
    records = is.v.history.records

    stays : StaysAt is.middle.disk f.middle.disk 0
    stays = f.before.others 0 (inl refl)

    last : StaysAt f.middle.disk new.disk 0
    last = f.refuses.opens.only.others 0 (λ e. absurd (omega (arith, e)))

    same : new.disk.reads 0 ≡ old.disk.reads 0
    same = last.reads ∙ stays.reads ∙ is.journal.reads

    -- each image is that of the journal as it was opened
    each_image : (image : List ℕ) → IsLeft new.disk 0 new.disk.beat image → image ≡ old.disk.reads 0
    each_image image left =
        let then = f.refuses.opens.only.each.goes_on.later in
        let early = f.before.goes_on.later in
        let opened_there : IsLeft f.middle.disk 0 f.middle.disk.beat image = subst IsTrue (last.images new.disk.beat image then (omega arith)) left in
        let there : IsLeft is.middle.disk 0 is.middle.disk.beat image = subst IsTrue (stays.images f.middle.disk.beat image early (omega arith)) opened_there in
        is.journal.durable image there ∙ is.journal.reads

    stood_then : IsRecords (old.disk.reads 0) records
    stood_then = open_stood is.middle is.v is.journal

    pub second_adds_nothing : AddsNothing most old new
    unfolding none_more
    second_adds_nothing = record { goes_on = none_more records stood_then same; none = refl }

    pub second_refused : GoesOnDurably most old new
    unfolding none_more
    second_refused = record {
      goes_on = none_more records stood_then same;
      was_read = stood_then;
      durable = λ calm image left. subst (λ (l : List Record). IsRecords image l) (sym (append-nil records))
          (subst (λ (i : List ℕ). IsRecords i records) (sym (each_image image left)) stood_then);
    }

pub each_close_goes_on : EachCloseGoesOn
each_close_goes_on close given run most answers old new sound_old sound start keeps closed = went_goes given run most answers old new sound_old sound start keeps closed.went

pub each_later_refusal_goes_on : EachLaterRefusalGoesOn
each_later_refusal_goes_on error given run most answers old new sound_old sound start keeps is = went_goes given run most answers old new sound_old sound start keeps is.went

pub each_second_refusal_goes_on : EachSecondRefusalGoesOn
each_second_refusal_goes_on error given run most answers old new sound_old sound start keeps is = second_refused given run most answers old new sound_old sound start keeps error is

pub each_refused_opening_adds_nothing : EachRefusedOpeningAddsNothing
each_refused_opening_adds_nothing error given run most answers old new sound_old sound start keeps (inl is) = journal_refused given run most answers old new sound_old sound start keeps error is
each_refused_opening_adds_nothing error given run most answers old new sound_old sound start keeps (inr is) = second_adds_nothing given run most answers old new sound_old sound start keeps error is

pub each_refusal_goes_on : EachRefusalGoesOn
each_refusal_goes_on error given run most answers old new sound_old sound start keeps (inl is) =
    (each_refused_opening_adds_nothing error given run most answers old new sound_old sound start keeps is).goes_on
each_refusal_goes_on error given run most answers old new sound_old sound start keeps (inr is) = (went_goes given run most answers old new sound_old sound start keeps is.went).goes_on
