-- What the opening of a fleet leaves, and agreement, files and told lists at each of its worlds.
use Rattle.std.proofs.Common.{◌≡◌, inl, inr, ℕ, zero, suc, ◌-◌, ◌≤◌, List, [], ◌∷◌, ◌++◌, length, get_or, Option, Some, None, IsTrue, refl, sym, ap, subst, ◌∙◌, arith}
use Rattle.std.specs.Prelude.{Contains, IfSome, slice_get}
use Rattle.std.specs.List.{AllByRecursion}
use Rattle.std.proofs.lemmas.List.{append-nil}
use Rattle.cacao_site.specs.DiskCalls.{AllLeft, GoesOn, IsLeft}
use Rattle.cacao_site.specs.LinkCalls.{GainsAll}
use Rattle.cacao_site.specs.RunViews.{file_of}
use Rattle.cacao_site.specs.Sound.{IsSound}
use Rattle.cacao_site.specs.View.{LinkView, SiteView}
use Rattle.cacao_site.specs.declared.parcel.Parcel.{Parcel}
use Rattle.cacao_site.proofs.Beats.{told-goes_on}
use Rattle.run_records.specs.Ranges.{ActInRange, InRange}
use Rattle.run_records.specs.declared.act.Act.{Act}
use Rattle.run_records.specs.declared.record.Record.{Record}
use Rattle.flow_engine_history.specs.HistoryView.{HoldsRecords}
use Rattle.flow_engine.specs.EngineView.{EngineView}
use Rattle.slpf_actuator.specs.ActuatorView.{ActuatorView, HoldsActs}
use Rattle.flow_laws.specs.Good.{IsGood}
use Rattle.flow_laws.specs.Images.{IsActs, IsAgent, IsRecords}
use Rattle.flow_laws.proofs.OneList.{acts_of_layout, records_of_layout}
use Rattle.flow_world_steps.specs.Grown.{FiltersGrow}
use Rattle.flow_world_steps.specs.Handled.{IsAtHand, IsTakenAct, IsTakenReply}
use Rattle.flow_world_steps.specs.Ready.{FilterStands, FiltersStand, HoldsActsWithUnsure, JournalStands}
use Rattle.flow_world_steps.specs.Sides.{HoldsWithUnsure, IsFilter}
use Rattle.flow_world_steps.specs.Worlds.{Phase}
use Rattle.flow_world_steps.proofs.FilterCalls.{has_acts}
use Rattle.flow_world_steps.proofs.Records.{has_records}
use Rattle.flow_world_steps.proofs.Sites.{some_same}
use Rattle.flow_world_laws.specs.Parcels.{Took}
use Rattle.flow_world_laws.proofs.Held.{HoldsActsMore, HoldsRecordsMore}
use Rattle.flow_world_laws.proofs.Taken.{all_taken, none_in, there_at}
use Rattle.flow_fleet_laws.specs.Events.Events.{nothing as no_event}
use Rattle.flow_fleet_laws.specs.Fleets.{IsAt, IsFleetStart, KeepsEach}
use Rattle.flow_fleet_laws.specs.Shrinking.{OnlyShrinks}
use Rattle.flow_fleet_laws.specs.Speeches.Form.{with_numbers}
use Rattle.flow_fleet_laws.specs.Views.{seen_from}
use Rattle.flow_fleet_laws.proofs.Journals.{events_go_on}
use Rattle.flow_fleet_laws.proofs.Seen.{filter_file, views_from_the_first}
use Rattle.flow_fleet_steps.specs.Laws.{FleetWent}
use Rattle.flow_fleet_steps.specs.Openings.{Runs, numbers}
use Rattle.flow_fleet_steps.specs.Steps.{FleetSteps}
use Rattle.flow_fleet_steps.specs.Steps.FleetSteps.{nothing}
use Rattle.flow_fleet_steps.specs.Worlds.{FleetWorld, Own, Shared, part}
use Rattle.flow_fleet_steps.specs.declared.error.FleetError.TheVariants as fleet_error
use Rattle.flow_fleet_steps.proofs.Events.{FleetComes, steps_come}
use Rattle.flow_fleet_steps.proofs.Numbers.{are_runs_of, at_place, opened_for, run_number}
use Rattle.flow_fleet_steps.proofs.Openings.{openings_shrink}
use Rattle.flow_fleet_steps.proofs.Records.{IsRunAt}
use Rattle.flow_fleet_steps.proofs.Whole.{fleets_keep_each}
use Rattle.flow_fleet.specs.Fleets.{AreFleetRuns}
use Rattle.flow_fleet.proofs.WholeLemmas.{are_runs}
use Rattle.flow_fleet_runs.specs.Handled.{FleetHandles, RepliesAreTaken}
use Rattle.flow_fleet_runs.specs.Standing.{FilesStand}
use Rattle.flow_fleet_runs.proofs.Files.{steps_files}
use Rattle.flow_fleet_runs.proofs.Handled.{fleet_steps_handle}
use Rattle.flow_fleet_runs.proofs.InHand.{fleet_steps_grow, opened_empty, same_link}

all_more : {A : Type 0} (P : A → Type 0) (xs : List A) (x : A) → AllByRecursion P xs → P x → AllByRecursion P (xs ++ x ∷ [])
all_more P [] x all is = (is, tt)
all_more P (y ∷ xs) x all is = (all.0, all_more P xs x all.1 is)

one_of : {T : Type 0} (P : T → Type 0) (x y : T) → P x → Contains (x ∷ []) y → P y
one_of P x y is has = by has.0 has.1 has.2
  where
    by : (k : ℕ) → suc k ≤ length (x ∷ []) → get_or (x ∷ []) k y ≡ y → P y
    by zero lt e = subst P e is
    by (suc k) lt e = absurd (omega (arith, lt))

-- ---- the files, where all are open and at the end

module _ (runs : Runs) (most : ℕ) (old new : SiteView) (are : AreFleetRuns runs) (went : FleetWent runs most old new) where
  no_unsure : (place : ℕ) → (went.start.own place).unsure ≡ None
  no_unsure place = ap (λ (o : ℕ → Own). (o place).unsure) went.begins.own

  none_unsure : went.start.notes.unsure_act ≡ None
  none_unsure = ap (λ (n : Shared). n.unsure_act) went.begins.notes

  first_journal : (place : ℕ) (v : EngineView) → slice_get went.start.engines place ≡ Some v → JournalStands (part place v (went.start.own place) went.start)
  first_journal place v there =
      let whole = went.begins.stands place v there in
      let none = no_unsure place in
      record {
        engine = whole.engine;
        holds = subst (λ (o : Option Record). AllLeft 0 (seen_from place went.start.site).disk (HoldsWithUnsure v.history.records o)) (sym none) (λ told image left. (whole.engine.ready whole.whole told image left).0);
        sure = λ e. none;
      }

  first_filters : (v : EngineView) (own : Own) → FiltersStand (part 0 v own went.start)
  first_filters v own = record {
    each = λ k f there.
        let is : IsFilter f (suc k) (seen_from 0 went.start.site) = subst (λ (s : SiteView). IsFilter f (suc k) s) (sym (views_from_the_first went.start.site)) (went.begins.filters.each k f there) in
        record {
          ready = is.ready;
          of_agent = is.of_agent;
          holds = subst (λ (o : Option (ℕ × Act)). AllLeft (suc k) (seen_from 0 went.start.site).disk (HoldsActsWithUnsure (suc k) f.acts o)) (sym none_unsure)
              (λ told image left. (is.ready.images is.whole told image (subst (λ (n : ℕ). IsLeft (seen_from 0 went.start.site).disk n went.start.site.disk.beat image) (sym is.of_agent) left)).0);
        };
    sure = λ g. none_unsure;
  }

  first_files : FilesStand went.start
  first_files = record {
    few = let many = went.begins.many in let few = are.few in omega (arith, many, few);
    journals = first_journal;
    filters = first_filters;
    record_range = λ place v there. subst (λ (o : Option Record). IfSome o InRange) (sym (no_unsure place)) tt;
    act_range = subst (λ (o : Option (ℕ × Act)). IfSome o (λ (e : ℕ × Act). ActInRange e.1)) (sym none_unsure) tt;
  }

  pub went_files : FilesStand went.to
  went_files = steps_files went.start went.to first_files went.steps

module _ (runs : Runs) (most : ℕ) (old new : SiteView) (sound_old : IsSound old) (are : AreFleetRuns runs) (start : IsFleetStart old (numbers runs)) (went : FleetWent runs most old new) where
  -- ---- where all files are open

  abbrev pub first : SiteView
  first = went.start.site

  abbrev pub last : FleetWorld
  last = went.to

  pub shrinks : OnlyShrinks old first
  shrinks = (openings_shrink fleet_error.Memory runs old first start.told).0 went.start.engines went.start.filters went.files

  pub link_first : first.link ≡ old.link
  link_first = went.files.others.rest.link ∙ same_link runs old _ went.files.middle went.start.engines went.files.journals

  pub told_first : IsTrue first.disk.told
  told_first = told-goes_on shrinks.goes_on start.told

  comes_first : FleetComes first (numbers runs) went.start
  comes_first = record {
    site = record {
      events = no_event;
      told = told_first;
      puts = some_same old.link.puts first.link.puts (ap (λ (l : LinkView). l.puts) link_first) start.puts;
      pending = some_same old.link.pending first.link.pending (ap (λ (l : LinkView). l.pending) link_first) start.pending;
    };
    numbers = opened_for runs went.start.engines went.begins.many went.begins.of_runs;
    in_hand = λ beat parcel at. absurd (opened_empty went.start went.begins.phase beat parcel at);
  }

  -- ---- at each world

  pub comes_at : (w : FleetWorld) → FleetSteps went.start w → FleetComes first (numbers runs) w
  comes_at w steps = steps_come first (numbers runs) went.start w steps comes_first

  pub told_at : (w : FleetWorld) → FleetSteps went.start w → IsTrue w.site.disk.told
  told_at w steps = (comes_at w steps).site.told

  -- from there on time goes on
  pub goes_on_from : (w b : FleetWorld) → FleetSteps went.start w → FleetSteps w b → GoesOn w.site.disk b.site.disk
  goes_on_from w b before after =
      let c = comes_at w before in
      let from : FleetComes w.site (numbers runs) w = record {
        site = record { events = no_event; told = c.site.told; puts = c.site.puts; pending = c.site.pending };
        numbers = c.numbers;
        in_hand = c.in_hand;
      } in
      events_go_on with_numbers (numbers runs) w.site b.site (steps_come w.site (numbers runs) w b after from).site.events

  -- the engine of the run with this number, and the number of a run
  pub engine_at : (w : FleetWorld) → FleetSteps went.start w → (place run : ℕ) → IsAt (numbers runs) place run → IsRunAt w.engines place run
  engine_at w steps place run at = are_runs_of w.engines place run (subst (λ (l : List ℕ). IsAt l place run) (sym (comes_at w steps).numbers) at)

  pub number_at : (w : FleetWorld) → FleetSteps went.start w → (place : ℕ) (v : EngineView) → slice_get w.engines place ≡ Some v → IsAt (numbers runs) place (run_number v)
  number_at w steps place v there = subst (λ (l : List ℕ). IsAt l place (run_number v)) (comes_at w steps).numbers (at_place w.engines place v there)

  -- ---- agreement

  keeps : KeepsEach (numbers runs) old last.site
  keeps = fleets_keep_each fleet_error.Memory runs most old last.site sound_old (are_runs runs are) start
      (inl (record { start = went.start; files = went.files; begins = went.begins; to = last; to_is = refl; steps = went.steps }))

  pub good_at : (place run : ℕ) → IsAt (numbers runs) place run → IsGood (seen_from place last.site) last.site.disk.beat
  good_at place run at = let kept = keeps place run at in (kept.each last.site.disk.beat kept.later (omega arith)).good

  -- ---- what the files had at the start

  pub journal_had : (place : ℕ) (v : EngineView) → slice_get went.start.engines place ≡ Some v → (image : List ℕ) → IsLeft first.disk (file_of place) first.disk.beat image → IsRecords image v.history.records
  journal_had place v there image left = has_records v (seen_from place first) (went.begins.stands place v there) told_first image left

  pub filter_had : (agent : ℕ) → IsAgent agent → (f : ActuatorView) → slice_get went.start.filters (agent - 1) ≡ Some f → (image : List ℕ) → IsLeft first.disk agent first.disk.beat image → IsActs image f.acts
  filter_had agent is f there image left =
      let number : suc (agent - 1) ≡ agent = omega (arith, is.0) in
      let open_ : IsFilter f agent first = subst (λ (n : ℕ). IsFilter f n first) number (went.begins.filters.each (agent - 1) f there) in
      has_acts f agent first open_ told_first image (subst (λ (n : ℕ). IsLeft first.disk n first.disk.beat image) (sym open_.of_agent) left)

  -- ---- at the end

  pub last_files : FilesStand last
  last_files = went_files runs most old new are went

  pub handles : FleetHandles went.start last
  handles = fleet_steps_handle went.start last (subst (λ (p : Phase). IsAtHand p []) (sym went.begins.phase) refl) went.steps

  abbrev pub parcels : List (ℕ × Parcel)
  parcels = handles.handled ++ handles.at_hand

  -- the parcels taken are those that were handed on, and the one that is not yet
  pub are_parcels : (taken : List (ℕ × Parcel)) → Took old last.site taken → taken ≡ handles.handled ++ handles.at_hand
  are_parcels taken took =
      let gains : GainsAll old.link.taken (handles.handled ++ handles.at_hand) last.site.link.taken =
      subst (λ (o : Option (List (ℕ × Parcel))). GainsAll o (handles.handled ++ handles.at_hand) last.site.link.taken) (ap (λ (l : LinkView). l.taken) link_first) handles.takes in
      all_taken old.link.taken last.site.link.taken took.before taken (handles.handled ++ handles.at_hand) took.was took.now gains

  -- some run
  pub some_engine : EngineView
  some_engine = (there_at went.start.engines 0 (let many = went.begins.many in let some = are.some in omega (arith, many, some))).0

  pub grow : FiltersGrow (part 0 some_engine (went.start.own 0) went.start) (part 0 some_engine (went.start.own 0) last)
  grow = fleet_steps_grow some_engine (went.start.own 0) went.start last went.steps

  unsure_act_taken : (e : ℕ × Act) → last.notes.unsure_act ≡ Some e → IsTakenAct (handles.handled ++ handles.at_hand) e
  unsure_act_taken e is = subst (λ (o : Option (ℕ × Act)). IfSome o (IsTakenAct (handles.handled ++ handles.at_hand))) is (handles.of_unsure_act (none_unsure runs most old new are went))

  unsure_act_range : (e : ℕ × Act) → last.notes.unsure_act ≡ Some e → ActInRange e.1
  unsure_act_range e is = subst (λ (o : Option (ℕ × Act)). IfSome o (λ (x : ℕ × Act). ActInRange x.1)) is last_files.act_range

  acts_by : (agent : ℕ) (f : ActuatorView) (image : List ℕ) → AllByRecursion ActInRange f.acts → (o : Option (ℕ × Act)) → last.notes.unsure_act ≡ o → HoldsActsWithUnsure agent f.acts o image
      → HoldsActsMore (handles.handled ++ handles.at_hand) agent f.acts image
  acts_by agent f image ranges o e h = go o e h
    where
      sure : HoldsActs f.acts image → HoldsActsMore (handles.handled ++ handles.at_hand) agent f.acts image
      sure is = record {
        more = [];
        are = subst (IsActs image) (sym (append-nil f.acts)) (acts_of_layout image f.acts ranges is);
        ranges = subst (AllByRecursion ActInRange) (sym (append-nil f.acts)) ranges;
        of_taken = λ act has. absurd (none_in act has);
      }

      further : (x : ℕ × Act) → last.notes.unsure_act ≡ Some x → x.0 ≡ agent → HoldsActs (f.acts ++ x.1 ∷ []) image → HoldsActsMore (handles.handled ++ handles.at_hand) agent f.acts image
      further x is own stands_so =
          let all = all_more ActInRange f.acts x.1 ranges (unsure_act_range x is) in
          record {
            more = x.1 ∷ [];
            are = acts_of_layout image (f.acts ++ x.1 ∷ []) all stands_so;
            ranges = all;
            of_taken = λ act has. one_of (λ (y : Act). IsTakenAct (handles.handled ++ handles.at_hand) (agent, y)) x.1 act
                (subst (λ (n : ℕ). IsTakenAct (handles.handled ++ handles.at_hand) (n, x.1)) own (unsure_act_taken x is)) has;
          }

      go : (o : Option (ℕ × Act)) → last.notes.unsure_act ≡ o → HoldsActsWithUnsure agent f.acts o image → HoldsActsMore (handles.handled ++ handles.at_hand) agent f.acts image
      go None e h = sure h
      go (Some x) e (inl h) = sure h
      go (Some x) e (inr h) = further x e h.0 h.1

  pub acts_at : (agent : ℕ) → IsAgent agent → (f : ActuatorView) → slice_get last.filters (agent - 1) ≡ Some f → (image : List ℕ) → IsLeft last.site.disk agent last.site.disk.beat image
      → HoldsActsMore (handles.handled ++ handles.at_hand) agent f.acts image
  acts_at agent is f there image left =
      let number : suc (agent - 1) ≡ agent = omega (arith, is.0) in
      let e = some_engine in
      let o = went.start.own 0 in
      let stands : FilterStands (part 0 e o last) agent f = subst (λ (n : ℕ). FilterStands (part 0 e o last) n f) number ((last_files.filters e o).each (agent - 1) f there) in
      let seen : IsLeft (seen_from 0 last.site).disk agent last.site.disk.beat image =
      subst (λ (n : ℕ). IsLeft last.site.disk n last.site.disk.beat image) (sym (filter_file 0 agent is.0 is.1)) left in
      acts_by agent f image stands.ready.history.ranges last.notes.unsure_act refl (stands.holds (told_at last went.steps) image seen)

  -- what became of the run at a place
  pub run_at : (place : ℕ) (u v : EngineView) → slice_get went.start.engines place ≡ Some u → slice_get last.engines place ≡ Some v
      → RepliesAreTaken (handles.handled ++ handles.at_hand) u v (went.start.own place).unsure (last.own place).unsure
  run_at place u v there here = handles.runs place u v there here

  records_by : (place run : ℕ) (v : EngineView) (image : List ℕ) → AllByRecursion InRange v.history.records → (o : Option Record) → IfSome o InRange → IfSome o (IsTakenReply run (handles.handled ++ handles.at_hand))
      → HoldsWithUnsure v.history.records o image → HoldsRecordsMore (handles.handled ++ handles.at_hand) run v.history.records image
  records_by place run v image ranges o fits of h = go o fits of h
    where
      sure : HoldsRecords v.history.records image → HoldsRecordsMore (handles.handled ++ handles.at_hand) run v.history.records image
      sure is = record {
        more = [];
        are = subst (IsRecords image) (sym (append-nil v.history.records)) (records_of_layout image v.history.records ranges is);
        of_taken = λ r has. absurd (none_in r has);
      }

      go : (o : Option Record) → IfSome o InRange → IfSome o (IsTakenReply run (handles.handled ++ handles.at_hand)) → HoldsWithUnsure v.history.records o image
          → HoldsRecordsMore (handles.handled ++ handles.at_hand) run v.history.records image
      go None fits of h = sure h
      go (Some r) fits of (inl h) = sure h
      go (Some r) fits of (inr h) = record {
        more = r ∷ [];
        are = records_of_layout image (v.history.records ++ r ∷ []) (all_more InRange v.history.records r ranges fits) h;
        of_taken = λ x has. one_of (IsTakenReply run (handles.handled ++ handles.at_hand)) r x of has;
      }

  pub records_at : (place run : ℕ) → IsAt (numbers runs) place run → (v : EngineView) → slice_get last.engines place ≡ Some v → (image : List ℕ)
      → IsLeft (seen_from place last.site).disk 0 last.site.disk.beat image → HoldsRecordsMore (handles.handled ++ handles.at_hand) run v.history.records image
  records_at place run at v there image left =
      let stands : JournalStands (part place v (last.own place) last) = last_files.journals place v there in
      let from = engine_at went.start nothing place run at in
      let one = run_at place from.v v from.there there in
      let of : IfSome (last.own place).unsure (IsTakenReply run (handles.handled ++ handles.at_hand)) =
      subst (λ (n : ℕ). IfSome (last.own place).unsure (IsTakenReply n (handles.handled ++ handles.at_hand))) from.of_run (one.of_unsure (no_unsure runs most old new are went place)) in
      records_by place run v image stands.engine.history.ranges (last.own place).unsure (last_files.record_range place v there) of (stands.holds (told_at last went.steps) image left)
