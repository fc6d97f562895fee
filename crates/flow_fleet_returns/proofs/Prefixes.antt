-- The runs of a fleet before it and on return.
use Rattle.std.proofs.Common.{◌≡◌, ◌≢◌, inl, inr, ℕ, zero, suc, ◌+◌, ◌<◌, ◌≤◌, List, [], ◌∷◌, ◌++◌, length, refl, sym, ◌∙◌, subst, ap, IsTrue, arith, length-append, All}
use Rattle.std.specs.Prelude.{Some, get_or, slice_get}
use Rattle.std.specs.List.{AllByRecursion}
use Rattle.std.proofs.lemmas.Bool.{cases_lt}
use Rattle.std.proofs.lemmas.List.{append-nil, append_assoc}
use Rattle.std.proofs.lemmas.List.Elements.{All-append, All-nil}
use Rattle.cacao_site.specs.Counts.{DidNotRise}
use Rattle.cacao_site.specs.DiskCalls.{IsLeft, OnlyFile, StaysAt}
use Rattle.cacao_site.specs.RunViews.{file_of}
use Rattle.cacao_site.specs.Sound.{IsSound}
use Rattle.cacao_site.specs.View.{SiteView}
use Rattle.cacao_site.proofs.Beats.{told-goes_on}
use Rattle.run_records.specs.declared.record.Record.{Record}
use Rattle.flow_core_rules.specs.Givens.{Given}
use Rattle.flow_engine.specs.EngineView.{EngineView}
use Rattle.flow_engine_history.specs.Openings.{IsRefusedOpening}
use Rattle.flow_engine_history.specs.declared.error.EngineError.{EngineError}
use Rattle.flow_engine_history.specs.declared.error.EngineError.TheVariants as refused_as
use Rattle.flow_laws.specs.Good.{IsChoice, IsGood}
use Rattle.flow_laws.specs.Images.{IsRecords}
use Rattle.flow_laws.specs.Journals.{IsJournalRun}
use Rattle.flow_laws.proofs.Basics.{put_at, put_at-each, put_at-same, same_some}
use Rattle.flow_laws.proofs.OneList.{same_records}
use Rattle.flow_world_steps.specs.Sums.{IsBetween}
use Rattle.flow_world_steps.proofs.Issues.{below}
use Rattle.flow_world_steps.proofs.Records.{has_records}
use Rattle.flow_world_parts.specs.Errors.{opening_refusal}
use Rattle.flow_world_parts.specs.Openings.{RefusesFilters}
use Rattle.flow_world_parts.specs.declared.error.WorldError.TheVariants as error
use Rattle.flow_world_laws.specs.Prefixes.{GoesOn as RunGoes}
use Rattle.flow_fleet_laws.specs.Fleets.{IsAt, IsFleetStart, KeepsEach}
use Rattle.flow_fleet_laws.specs.Views.{seen_from}
use Rattle.flow_fleet_laws.proofs.Seen.{no_filter, sound-seen}
use Rattle.flow_fleet_sessions.proofs.Records.{all_more}
use Rattle.flow_fleet_steps.specs.Laws.{FleetWent}
use Rattle.flow_fleet_steps.specs.Openings.{RefusesFilterOf, RefusesJournalAt, Runs, numbers}
use Rattle.flow_fleet_steps.specs.Turns.{StandsAt}
use Rattle.flow_fleet_steps.specs.Worlds.{EachRun, Own, Shared}
use Rattle.flow_fleet_steps.specs.declared.error.FleetError.{FleetError}
use Rattle.flow_fleet_steps.proofs.Back.{only_back}
use Rattle.flow_fleet_sums.specs.Sums.{FleetAdds, of_place}
use Rattle.flow_fleet_sums.proofs.Adding.{fleet_steps_add, of_both, of_other, of_tag, there_of}
use Rattle.flow_fleet_sums.proofs.Written.{IsSure}
use Rattle.flow_fleet_returns.specs.Prefixes.{EachFleetCloseGoesOn, EachFleetRefusalGoesOn, EachRefusedFleetOpeningAddsNothing, FleetAddsNothing, FleetGoesOn, RunGoesOn}
use Rattle.flow_fleet_returns.proofs.Placed.{all_placed}
use Rattle.flow_fleet_returns.proofs.PrefixSteps.{OneUnsure, own_files, stands_on, steps_stand}
use Rattle.flow_fleet_returns.proofs.PrefixOpenings.{AreOpened, at_low, at_place, beyond, filters_after, journals_opened, place_few, same_or_not}

-- ---- what each image stands for, where all agrees

module _ (site : SiteView) (sound : IsSound site) (told : IsTrue site.disk.told) (good : IsGood site site.disk.beat) where
  with_image : (image : List ℕ) → IsLeft site.disk 0 site.disk.beat image → IsChoice site site.disk.beat (put_at 0 image (λ file. site.disk.reads file))
  with_image image left = λ other le. put_at-each (λ (n : ℕ) (l : List ℕ). IsLeft site.disk n site.disk.beat l) 0 image (λ file. site.disk.reads file) other
      (λ e. subst (λ (n : ℕ). IsLeft site.disk n site.disk.beat image) (sym e) left)
      (λ ne. sound.reads other told)

  pub good_records : (image : List ℕ) → IsLeft site.disk 0 site.disk.beat image → (records : List Record) × IsRecords image records
  good_records image left =
      let g = good.each (put_at 0 image (λ file. site.disk.reads file)) (with_image image left) in
      (g.records, subst (λ (l : List ℕ). IsRecords l g.records) (put_at-same 0 image (λ file. site.disk.reads file)) g.are_records)

  pub good_run : (image : List ℕ) (records : List Record) → IsLeft site.disk 0 site.disk.beat image → IsRecords image records → IsJournalRun records
  good_run image records left are =
      let g = good.each (put_at 0 image (λ file. site.disk.reads file)) (with_image image left) in
      let here : IsRecords image g.records = subst (λ (l : List ℕ). IsRecords l g.records) (put_at-same 0 image (λ file. site.disk.reads file)) g.are_records in
      subst (λ (l : List Record). IsJournalRun l) (same_records image g.records records here are) g.agree.is_run

-- where no call of the disk failed, an opening was not refused because one did
not_disk : (why : EngineError) (given : Given) (run : ℕ) (old new : SiteView) → IsRefusedOpening given run why old new → DidNotRise old.disk.faults new.disk.faults
    → opening_refusal why ≢ error.Disk
not_disk refused_as.Disk given run old new is calm e = absurd (omega (arith, is, calm.0, calm.1))
not_disk (refused_as.Damaged place) given run old new is calm e = let f : error.Damaged 0 place ≡ error.Disk = e in cc
not_disk (refused_as.OtherRun held asked) given run old new is calm e = let f : error.OtherRun held asked ≡ error.Disk = e in cc
not_disk (refused_as.OtherBook index) given run old new is calm e = let f : error.OtherBook index ≡ error.Disk = e in cc
not_disk (refused_as.Limit what) given run old new is calm e = let f : error.Limit what ≡ error.Disk = e in cc
not_disk refused_as.Memory given run old new is calm e = let f : error.Memory ≡ error.Disk = e in cc
not_disk refused_as.Broken given run old new is calm e = absurd is

-- ---- a fleet

module _ (runs : Runs) (most : ℕ) (old new : SiteView) (sound_old : IsSound old) (sound : IsSound new) (start : IsFleetStart old (numbers runs)) (keeps : KeepsEach (numbers runs) old new) where
  -- one run, by what its journal read as
  module _ (opened : ℕ) (added : List (ℕ × Record)) (few : length added ≤ most) (place run : ℕ) (at : IsAt (numbers runs) place run) where
    told_new : IsTrue new.disk.told
    told_new = (keeps place run at).told

    now_left : IsLeft new.disk (file_of place) new.disk.beat (new.disk.reads (file_of place))
    now_left = sound.reads (file_of place) told_new

    pub goes : (before : List Record) (image : List ℕ) → IsLeft old.disk (file_of place) old.disk.beat image → IsRecords image before
        → (DidNotRise old.disk.faults new.disk.faults → IsRecords (old.disk.reads (file_of place)) before) → IsRecords (new.disk.reads (file_of place)) (before ++ of_place place added) → RunGoes most (seen_from place old) (seen_from place new)
    goes before image left stood from_read reads = record {
      before = before;
      image = image;
      left = left;
      stood = stood;
      from_read = from_read;
      added = of_place place added;
      reads = reads;
      is_run = good_run (seen_from place new) (sound-seen place new sound) told_new ((keeps place run at).each new.disk.beat (keeps place run at).later (omega arith)).good
          (new.disk.reads (file_of place)) (before ++ of_place place added) now_left reads;
      few = let less = place_few place added in omega (arith, less, few);
    }

    pub goes_by : All (IsBetween old.clock.now new.clock.now) (of_place place added) → (before : List Record) (image : List ℕ) → IsLeft old.disk (file_of place) old.disk.beat image → IsRecords image before
        → (DidNotRise old.disk.faults new.disk.faults → IsRecords (old.disk.reads (file_of place)) before) → IsRecords (new.disk.reads (file_of place)) (before ++ of_place place added)
        → (place ≢ opened → IsRecords (old.disk.reads (file_of place)) before)
        → (place < opened → DidNotRise old.disk.faults new.disk.faults → (image : List ℕ) → IsLeft new.disk (file_of place) new.disk.beat image → IsRecords image (before ++ of_place place added))
        → RunGoesOn most opened added old new place
    unfolding goes
    goes_by moments before image left stood from_read reads was_read durable = record {
      goes_on = goes before image left stood from_read reads;
      is = refl;
      moments = moments;
      was_read = was_read;
      durable = durable;
    }

    -- a journal that was opened, or left as it was, which reads at the start as the records `before`
    pub goes_from : All (IsBetween old.clock.now new.clock.now) (of_place place added) → (before : List Record) → IsRecords (old.disk.reads (file_of place)) before → IsRecords (new.disk.reads (file_of place)) (before ++ of_place place added)
        → (place < opened → DidNotRise old.disk.faults new.disk.faults → (image : List ℕ) → IsLeft new.disk (file_of place) new.disk.beat image → IsRecords image (before ++ of_place place added))
        → RunGoesOn most opened added old new place
    goes_from moments before stood reads durable =
        goes_by moments before (old.disk.reads (file_of place)) (sound_old.reads (file_of place) start.told) stood (λ calm. stood) reads (λ ne. stood) durable

    -- all that a journal has stands for these records
    pub goes_sure : All (IsBetween old.clock.now new.clock.now) (of_place place added) → (before : List Record) → IsRecords (old.disk.reads (file_of place)) before
        → ((image : List ℕ) → IsLeft new.disk (file_of place) new.disk.beat image → IsRecords image (before ++ of_place place added)) → RunGoesOn most opened added old new place
    goes_sure moments before stood each = goes_from moments before stood (each (new.disk.reads (file_of place)) now_left) (λ lt calm. each)

  no_moments : All (IsBetween old.clock.now new.clock.now) []
  no_moments = All-nil (IsBetween old.clock.now new.clock.now)

  none_of : (place : ℕ) (before : List Record) (image : List ℕ) → IsRecords image before → IsRecords image (before ++ of_place place [])
  none_of place before image are = subst (λ (l : List Record). IsRecords image l) (sym (append-nil before)) are

  -- ---- all files were opened

  module _ (went : FleetWent runs most old new) where
    files : AreOpened old went.start.site (length runs) went.start.engines
    files =
        let others = went.files.others in
        filters_after old went.files.middle went.start.site (length runs) went.start.engines (journals_opened runs old (length runs) went.files.middle went.start.engines start.told went.files.journals)
        others.goes_on others.steady others.rest (λ k. others.others (file_of k) (beyond 16 k (omega arith)))

    abbrev adds : FleetAdds went.start went.to
    adds = fleet_steps_add went.start went.to went.steps

    sure : IsSure went.start
    sure = record { own = λ k. ap (λ (o : ℕ → Own). (o k).unsure) went.begins.own; act = ap (λ (n : Shared). n.unsure_act) went.begins.notes }

    budget : length adds.added + went.to.notes.left ≡ most
    budget = adds.budget ∙ ap (λ (n : Shared). n.left) went.begins.notes

    left_there : (k : ℕ) (image : List ℕ) → IsLeft new.disk (file_of k) new.disk.beat image → IsLeft went.to.site.disk (file_of k) went.to.site.disk.beat image
    left_there k image left = subst (λ (s : SiteView). IsLeft s.disk (file_of k) s.disk.beat image) (sym went.to_is) left

    told_there : IsTrue new.disk.told → IsTrue went.to.site.disk.told
    told_there told = subst (λ (s : SiteView). IsTrue s.disk.told) (sym went.to_is) told

    first_at : (place run : ℕ) → IsAt (numbers runs) place run → (v : EngineView) × (slice_get went.start.engines place ≡ Some v)
    first_at place run at = there_of went.start.engines place (let lt = at_low runs place run at in let many = went.begins.many in omega (arith, lt, many))

    last_at : (place run : ℕ) → IsAt (numbers runs) place run → (w : EngineView) × (slice_get went.to.engines place ≡ Some w)
    last_at place run at = there_of went.to.engines place (let lt = at_low runs place run at in let many = went.begins.many in let all = adds.many in omega (arith, lt, many, all))

    -- an engine whose journal stands for its records
    sure_image : (place : ℕ) (w : EngineView) → StandsAt went.to.site place w → IsTrue new.disk.told → (image : List ℕ) → IsLeft new.disk (file_of place) new.disk.beat image → IsRecords image w.history.records
    sure_image place w stands told image left = has_records w (seen_from place went.to.site) stands (told_there told) image (left_there place image left)

    placed_added : AllByRecursion (λ (e : ℕ × Record). e.0 < length runs) adds.added
    placed_added = all_placed adds.added went.start.engines went.to.engines (length runs) went.begins.many adds.many
        (λ j v w there here. (adds.each j v w there here).is ∙ ap (λ (n : ℕ). v.history.records ++ of_place n adds.added) (omega arith)) adds.all

    -- the clock stands as it did at the start, and then as on return
    moments_of : (place : ℕ) → All (IsBetween went.start.site.clock.now went.to.site.clock.now) (of_place place adds.added) → All (IsBetween old.clock.now new.clock.now) (of_place place adds.added)
    moments_of place all = subst (λ (n : ℕ). All (IsBetween n new.clock.now) (of_place place adds.added)) files.now
        (subst (λ (s : SiteView). All (IsBetween went.start.site.clock.now s.clock.now) (of_place place adds.added)) went.to_is all)

    all_go : EachRun went.to.engines (StandsAt went.to.site) → FleetGoesOn (length runs) runs most old new
    all_go all = record {
      added = adds.added;
      few = few_added;
      placed = placed_added;
      each = λ place run at.
          let v = first_at place run at in
          let w = last_at place run at in
          goes_sure (length runs) adds.added few_added place run at (moments_of place (adds.each place v.0 w.0 v.1 w.1).moments) v.0.history.records (files.stood place v.0 v.1)
          (λ image left. subst (λ (l : List Record). IsRecords image l) (adds.each place v.0 w.0 v.1 w.1).is (sure_image place w.0 (all place w.0 w.1) (keeps place run at).told image left));
    }
      where
        few_added : length adds.added ≤ most
        few_added = let few = budget in omega (arith, few)

    -- ---- the disk failed in the last call

    module _ (one : OneUnsure went.start.site went.to) where
      fault : DidNotRise old.disk.faults new.disk.faults → ⊥
      fault calm =
          let now = ap (λ (s : SiteView). s.disk.faults) went.to_is in
          let was = files.steady in
          let rose = one.rose in
          absurd (omega (arith, rose, now, was, calm.0, calm.1))

      one_low : one.place < length runs
      one_low = let lt = below went.to.engines one.place one.v one.there in let many = went.begins.many in let all = adds.many in omega (arith, lt, many, all)

      run_at : (run : ℕ) × IsAt (numbers runs) one.place run
      run_at = at_place runs one.place one_low

      told_one : IsTrue new.disk.told
      told_one = (keeps one.place run_at.0 run_at.1).told

      -- what the journal at a place reads as, of the records at the start and these more
      abbrev Reads : List (ℕ × Record) → Type 0
      Reads added = (place : ℕ) (v w : EngineView) → slice_get went.start.engines place ≡ Some v → slice_get went.to.engines place ≡ Some w
          → IsRecords (new.disk.reads (file_of place)) (v.history.records ++ of_place place added)

      -- each was added at a moment of the call
      abbrev Timely : List (ℕ × Record) → Type 0
      Timely added = (place : ℕ) (v w : EngineView) → slice_get went.start.engines place ≡ Some v → slice_get went.to.engines place ≡ Some w
          → All (IsBetween old.clock.now new.clock.now) (of_place place added)

      unsure_go : (added : List (ℕ × Record)) → length added ≤ most → AllByRecursion (λ (e : ℕ × Record). e.0 < length runs) added → Timely added → Reads added → FleetGoesOn (length runs) runs most old new
      unsure_go added few placed timely reads = record {
        added = added;
        few = few;
        placed = placed;
        each = λ place run at.
            let v = first_at place run at in
            let w = last_at place run at in
            goes_from (length runs) added few place run at (timely place v.0 w.0 v.1 w.1) v.0.history.records (files.stood place v.0 v.1) (reads place v.0 w.0 v.1 w.1) (λ lt calm. absurd (fault calm));
      }

      other_reads : (place : ℕ) (w : EngineView) → slice_get went.to.engines place ≡ Some w → place ≢ one.place → IsRecords (new.disk.reads (file_of place)) w.history.records
      other_reads place w there ne = sure_image place w (one.others place w there ne) told_one (new.disk.reads (file_of place)) (sound.reads (file_of place) told_one)

      -- it does not stand there
      reads_less : IsRecords (new.disk.reads (file_of one.place)) one.v.history.records → Reads adds.added
      reads_less is place v w there here = subst (λ (l : List Record). IsRecords (new.disk.reads (file_of place)) l) (adds.each place v w there here).is (elim (same_or_not place one.place) [
        | inl e ↦
            let same : one.v ≡ w = same_some (sym one.there ∙ subst (λ (n : ℕ). slice_get went.to.engines n ≡ Some w) e here) in
            subst (λ (n : ℕ). IsRecords (new.disk.reads (file_of n)) w.history.records) (sym e) (subst (λ (x : EngineView). IsRecords (new.disk.reads (file_of one.place)) x.history.records) same is)
        | inr ne ↦ other_reads place w here ne
      ])

      abbrev more : List (ℕ × Record)
      more = adds.added ++ (one.place, one.r) ∷ []

      timely_less : Timely adds.added
      timely_less place v w there here = moments_of place (adds.each place v w there here).moments

      -- of one place, with that record or without it
      more_here : of_place one.place more ≡ of_place one.place adds.added ++ one.r ∷ []
      more_here = of_both one.place adds.added ((one.place, one.r) ∷ []) ∙ ap (λ (l : List Record). of_place one.place adds.added ++ l) (of_tag one.place (one.r ∷ []))

      more_there : (place : ℕ) → place ≢ one.place → of_place place more ≡ of_place place adds.added
      more_there place ne =
          of_both place adds.added ((one.place, one.r) ∷ []) ∙ ap (λ (l : List Record). of_place place adds.added ++ l) (of_other place one.place (one.r ∷ []) (λ f. ne (sym f))) ∙ append-nil (of_place place adds.added)

      one_timely : All (IsBetween old.clock.now new.clock.now) (one.r ∷ [])
      one_timely k d lt =
          let was = files.now in
          let now = ap (λ (s : SiteView). s.clock.now) went.to_is in
          let from = one.moment.0 in
          let to = one.moment.1 in
          let between : IsBetween old.clock.now new.clock.now one.r = (omega (arith, was, from), omega (arith, now, to)) in
          first k d lt between
        where
          first : (k : ℕ) (d : Record) → k < length (one.r ∷ []) → IsBetween old.clock.now new.clock.now one.r → IsBetween old.clock.now new.clock.now (get_or (one.r ∷ []) k d)
          first zero d lt is = is
          first (suc k) d lt is = absurd (omega (arith, lt))

      timely_more : Timely more
      timely_more place v w there here = elim (same_or_not place one.place) [
        | inl e ↦
            let all : All (IsBetween old.clock.now new.clock.now) (of_place one.place adds.added) =
            subst (λ (n : ℕ). All (IsBetween old.clock.now new.clock.now) (of_place n adds.added)) e (timely_less place v w there here) in
            subst (λ (n : ℕ). All (IsBetween old.clock.now new.clock.now) (of_place n more)) (sym e)
            (subst (λ (l : List Record). All (IsBetween old.clock.now new.clock.now) l) (sym more_here)
            (All-append (IsBetween old.clock.now new.clock.now) (of_place one.place adds.added) (one.r ∷ []) all one_timely))
        | inr ne ↦ subst (λ (l : List Record). All (IsBetween old.clock.now new.clock.now) l) (sym (more_there place ne)) (timely_less place v w there here)
      ]

      -- it does
      reads_more : IsRecords (new.disk.reads (file_of one.place)) (one.v.history.records ++ one.r ∷ []) → Reads more
      reads_more is place v w there here = elim (same_or_not place one.place) [
        | inl e ↦ subst (λ (n : ℕ). slice_get went.start.engines n ≡ Some v → slice_get went.to.engines n ≡ Some w → IsRecords (new.disk.reads (file_of n)) (v.history.records ++ of_place n more)) (sym e) (at_one is v w) there here
        | inr ne ↦
            subst (λ (l : List Record). IsRecords (new.disk.reads (file_of place)) (v.history.records ++ l)) (sym (more_there place ne))
            (subst (λ (l : List Record). IsRecords (new.disk.reads (file_of place)) l) (adds.each place v w there here).is (other_reads place w here ne))
      ]
        where
          at_one : IsRecords (new.disk.reads (file_of one.place)) (one.v.history.records ++ one.r ∷ []) → (v w : EngineView) → slice_get went.start.engines one.place ≡ Some v → slice_get went.to.engines one.place ≡ Some w
              → IsRecords (new.disk.reads (file_of one.place)) (v.history.records ++ of_place one.place more)
          at_one is v w there here =
              let same : one.v ≡ w = same_some (sym one.there ∙ here) in
              let records : one.v.history.records ≡ v.history.records ++ of_place one.place adds.added = ap (λ (x : EngineView). x.history.records) same ∙ (adds.each one.place v w there here).is in
              let whole : one.v.history.records ++ one.r ∷ [] ≡ v.history.records ++ of_place one.place more =
              ap (λ (l : List Record). l ++ one.r ∷ []) records ∙ append_assoc v.history.records (of_place one.place adds.added) (one.r ∷ []) ∙ ap (λ (l : List Record). v.history.records ++ l) (sym more_here) in
              subst (λ (l : List Record). IsRecords (new.disk.reads (file_of one.place)) l) whole is

      one_goes : FleetGoesOn (length runs) runs most old new
      one_goes =
          let few = budget in
          let one_left = one.budget in
          elim (one.holds (told_there told_one) (new.disk.reads (file_of one.place)) (left_there one.place (new.disk.reads (file_of one.place)) (sound.reads (file_of one.place) told_one))) [
            | inl is ↦ unsure_go adds.added (omega (arith, few)) placed_added timely_less (reads_less is)
            | inr is ↦ unsure_go more (omega (arith, few, one_left, length-append adds.added ((one.place, one.r) ∷ [])))
                (all_more (λ (e : ℕ × Record). e.0 < length runs) adds.added (one.place, one.r) placed_added one_low) timely_more (reads_more is)
          ]

    pub went_goes : FleetGoesOn (length runs) runs most old new
    went_goes = elim (steps_stand went.start went.to sure went.begins.stands went.steps) [
      | inl all ↦ all_go all
      | inr one ↦ one_goes one
    ]

  -- ---- a journal was not opened

  module _ (error : FleetError) (is : RefusesJournalAt error runs old new) where
    opened : AreOpened old is.middle is.place is.engines
    opened = journals_opened runs old is.place is.middle is.engines start.told is.before

    back_new : OnlyFile (file_of is.place) is.middle new (IsLeft (seen_from is.place is.middle).disk 0 (seen_from is.place is.middle).disk.beat)
    back_new = only_back is.place _ is.middle new is.refuses.opens.only

    not_there : (k : ℕ) → k ≢ is.place → StaysAt is.middle.disk new.disk (file_of k)
    not_there k ne = back_new.others (file_of k) (own_files is.place k ne)

    -- one that was opened before
    lower : (place run : ℕ) → IsAt (numbers runs) place run → place < is.place → RunGoesOn most is.place [] old new place
    lower place run at lt =
        let v = there_of is.engines place (let many = opened.many in omega (arith, lt, many)) in
        let stands = stands_on place v.0 is.middle new back_new.each.goes_on (not_there place (λ e. absurd (omega (arith, e, lt)))) (opened.stands place v.0 v.1) in
        goes_sure is.place [] (omega arith) place run at no_moments v.0.history.records (opened.stood place v.0 v.1)
        (λ image left. none_of place v.0.history.records image (has_records v.0 (seen_from place new) stands (keeps place run at).told image left))

    -- one that was not reached
    higher : (place run : ℕ) → IsAt (numbers runs) place run → is.place < place → RunGoesOn most is.place [] old new place
    higher place run at lt =
        let stood = good_records (seen_from place old) (sound-seen place old sound_old) start.told (start.start place run at).good (old.disk.reads (file_of place)) (sound_old.reads (file_of place) start.told) in
        let same : new.disk.reads (file_of place) ≡ old.disk.reads (file_of place) = (not_there place (λ e. absurd (omega (arith, e, lt)))).reads ∙ opened.reads place in
        goes_from is.place [] (omega arith) place run at no_moments stood.0 stood.1 (none_of place stood.0 (new.disk.reads (file_of place)) (subst (λ (i : List ℕ). IsRecords i stood.0) (sym same) stood.1)) (λ below_. absurd (omega (arith, below_, lt)))

    calm_there : DidNotRise old.disk.faults new.disk.faults → DidNotRise is.middle.disk.faults new.disk.faults
    calm_there calm = subst (λ (n : ℕ). DidNotRise n new.disk.faults) (sym opened.steady) calm

    -- where no call of the disk failed, it reads as at the start
    read_calm : DidNotRise old.disk.faults new.disk.faults → new.disk.reads (file_of is.place) ≡ old.disk.reads (file_of is.place)
    read_calm calm =
        is.refuses.reads (λ e. not_disk is.refuses.why is.given is.run (seen_from is.place is.middle) (seen_from is.place new) is.refuses.refused (calm_there calm) (sym is.refuses.is ∙ e)) ∙ opened.reads is.place

    -- and that one
    here : (run : ℕ) → IsAt (numbers runs) is.place run → RunGoesOn most is.place [] old new is.place
    here run at =
        let told = (keeps is.place run at).told in
        let image = new.disk.reads (file_of is.place) in
        let was : IsLeft is.middle.disk (file_of is.place) is.middle.disk.beat image =
        back_new.each.each (told-goes_on opened.on start.told) new.disk.beat image back_new.each.goes_on.later (omega arith) (sound.reads (file_of is.place) told) in
        let left : IsLeft old.disk (file_of is.place) old.disk.beat image = subst IsTrue ((opened.later is.place (omega arith)).images is.middle.disk.beat image opened.on.later (omega arith)) was in
        let stood = good_records (seen_from is.place old) (sound-seen is.place old sound_old) start.told (start.start is.place run at).good image left in
        goes_by is.place [] (omega arith) is.place run at no_moments stood.0 image left stood.1
        (λ calm. subst (λ (i : List ℕ). IsRecords i stood.0) (read_calm calm) stood.1) (none_of is.place stood.0 image stood.1) (λ ne. absurd (ne refl)) (λ lt. absurd (omega (arith, lt)))

    pub journal_refused : FleetAddsNothing is.place runs most old new
    journal_refused = record {
      goes_on = record {
        added = [];
        few = omega arith;
        placed = tt;
        each = λ place run at. elim (same_or_not place is.place) [
          | inl e ↦ subst (λ (n : ℕ). IsAt (numbers runs) n run → RunGoesOn most is.place [] old new n) (sym e) (here run) at
          | inr ne ↦ elim (cases_lt place is.place) [
            | inl lt ↦ lower place run at lt
            | inr le ↦ higher place run at (not_same place ne le)
          ]
        ];
      };
      none = refl;
    }
      where
        not_same : (place : ℕ) → place ≢ is.place → is.place ≤ place → is.place < place
        not_same place ne le = elim (cases_lt is.place place) [ inl lt ↦ lt | inr ge ↦ absurd (ne (omega (arith, le, ge))) ]

  -- ---- a filter's file was not

  pub filter_refused : (error : FleetError) → RefusesFilterOf error runs old new → FleetAddsNothing (length runs) runs most old new
  filter_refused error is = record { goes_on = record { added = []; few = omega arith; placed = tt; each = each }; none = refl }
    where
      f : RefusesFilters is.why is.middle new
      f = is.refuses

      opened_all : AreOpened old f.middle (length runs) is.engines
      opened_all = filters_after old is.middle f.middle (length runs) is.engines (journals_opened runs old (length runs) is.middle is.engines start.told is.journals)
          f.before.goes_on f.before.steady f.before.rest (λ k. f.before.others (file_of k) (beyond f.agent k (let high = f.high in omega (arith, high))))

      each : (place run : ℕ) → IsAt (numbers runs) place run → RunGoesOn most (length runs) [] old new place
      each place run at =
          let v = there_of is.engines place (let many = opened_all.many in let lt = at_low runs place run at in omega (arith, lt, many)) in
          let only = f.refuses.opens.only in
          let stands = stands_on place v.0 f.middle new only.each.goes_on (only.others (file_of place) (no_filter place (f.agent + 1) (omega arith, let high = f.high in omega (arith, high)))) (opened_all.stands place v.0 v.1) in
          goes_sure (length runs) [] (omega arith) place run at no_moments v.0.history.records (opened_all.stood place v.0 v.1)
          (λ image left. none_of place v.0.history.records image (has_records v.0 (seen_from place new) stands (keeps place run at).told image left))

-- ---- the laws

pub each_fleet_close_goes_on : EachFleetCloseGoesOn
each_fleet_close_goes_on close runs most old new sound_old sound start keeps is = went_goes runs most old new sound_old sound start keeps is.went

pub each_refused_fleet_opening_adds_nothing : EachRefusedFleetOpeningAddsNothing
each_refused_fleet_opening_adds_nothing error runs most old new sound_old sound start keeps (inl is) = journal_refused runs most old new sound_old sound start keeps error is
each_refused_fleet_opening_adds_nothing error runs most old new sound_old sound start keeps (inr is) = filter_refused runs most old new sound_old sound start keeps error is

pub each_fleet_refusal_goes_on : EachFleetRefusalGoesOn
each_fleet_refusal_goes_on error runs most old new sound_old sound start keeps (inl is) =
    (each_refused_fleet_opening_adds_nothing error runs most old new sound_old sound start keeps is).goes_on
each_fleet_refusal_goes_on error runs most old new sound_old sound start keeps (inr is) = went_goes runs most old new sound_old sound start keeps is.went
