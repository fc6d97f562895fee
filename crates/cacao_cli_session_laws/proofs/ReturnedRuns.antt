-- What the engine's file holds where a session ended.
use Rattle.std.proofs.Common.{◌≡◌, ◌≢◌, ◌⊎◌, inl, inr, ◌∙◌, refl, sym, ap, ap₂, subst, arith, ℕ, zero, suc, ◌+◌, ◌-◌, ◌<◌, ◌≤◌, Bool, false, List, [], ◌∷◌, ◌++◌, length, length-append, Option, Some, None}
use Rattle.std.specs.Prelude.{Any, IsTrue, slice_get}
use Rattle.cacao_site.specs.DiskCalls.{AllLeft, GoesOn, IsLeft}
use Rattle.cacao_site.specs.Sound.{IsSound}
use Rattle.cacao_site.specs.View.{SiteView}
use Rattle.cacao_site.specs.declared.parcel.Parcel.{Parcel}
use Rattle.run_journal.specs.Layout.{Stands}
use Rattle.run_journal.proofs.LayoutLaws.{one_list}
use Rattle.run_records.specs.Fields.{◌>>=◌}
use Rattle.run_records.specs.Lists.{records as records_in}
use Rattle.run_records.specs.Reading.{record_of}
use Rattle.run_records.specs.declared.act.Act.{Act}
use Rattle.run_records.specs.declared.record.Record.{Record}
use Rattle.run_records.specs.declared.record.Record.TheVariants as entry
use Rattle.flow_core.specs.declared.flow_errors.LimitKind.{LimitKind}
use Rattle.flow_core_rules.specs.Givens.{Given}
use Rattle.flow_core_rules.specs.Runs.{begin_of}
use Rattle.flow_core_rules.specs.State.{Shown}
use Rattle.flow_core_rules.proofs.RunLemmas.{list_heads}
use Rattle.flow_engine_history.specs.HistoryView.{HoldsRecords}
use Rattle.flow_engine_history.specs.Histories.{IsShownAfter, IsSoFar}
use Rattle.flow_engine_history.specs.Laws.{HoldsRun}
use Rattle.flow_engine_history.specs.Openings.{BeginsWith, RefusesAsEntries}
use Rattle.flow_engine_answers.specs.declared.answers.OperatorAnswer.{OperatorAnswer}
use Rattle.flow_engine_history.specs.declared.error.EngineError.TheVariants as refusal
use Rattle.flow_engine.specs.EngineView.{EngineView}
use Rattle.flow_laws.specs.Images.{IsActs, IsAgent, IsRecords}
use Rattle.flow_laws.proofs.OneList.{acts_of_layout, records_of_layout, same_acts, same_records}
use Rattle.slpf_actuator.specs.ActLists.{IsHistory}
use Rattle.slpf_actuator.specs.ActuatorView.{ActuatorView, HoldsActs}
use Rattle.slpf_actuator.specs.Damage.{IsDamaged}
use Rattle.slpf_actuator.specs.declared.error.ActError.{ActError}
use Rattle.slpf_actuator.specs.declared.error.ActError.TheVariants as act_error
use Rattle.flow_world_steps.specs.Causes.{IsFirstWithRun, Shows}
use Rattle.flow_world_steps.specs.Sides.{IsFilter}
use Rattle.flow_world_steps.specs.Steps.{HasRun, IsActCause}
use Rattle.flow_world_steps.specs.Unbroken.{AreFiltersSure, EndedByFilter, IsJournalSure}
use Rattle.flow_world_steps.specs.Unsure.{UnsureByStep}
use Rattle.flow_world_steps.specs.Worlds.{Cause, Phase, World, disk_failed, holds, not_said, past, refused, run_used, wants_memory}
use Rattle.flow_world.specs.Closes.{IsClose, IsRefusal, refusal_of}
use Rattle.flow_world.specs.Sessions.{Went}
use Rattle.flow_world.specs.Close.{Close}
use Rattle.flow_world.specs.Close.TheVariants as close
use Rattle.flow_world.specs.WorldError.{WorldError}
use Rattle.flow_world.specs.WorldError.TheVariants as error
use Rattle.flow_world.proofs.CloseLemmas.{closes_are_no_refusals}
use Rattle.flow_world_laws.specs.Ends.{TurnAt}
use Rattle.flow_world_laws.specs.Returned.{ReadsAsRun}
use Rattle.flow_world_laws.proofs.Carried.{steps_keep_disk_on}
use Rattle.flow_world_laws.proofs.Shown.{steps_in_turn}
use Rattle.flow_world_laws.proofs.WholeActs.{acts_undamaged}
use Rattle.cacao_cli_ends.specs.Lines.{SaysAtMostALine}
use Rattle.cacao_cli_session_laws.specs.Returning.{BeginsAnother, GainsRecords, KeepsWithin}
use Rattle.cacao_cli_ends.specs.Work.{Start}
use Rattle.cacao_cli_session_laws.proofs.SpentLemmas.{CouldMore, past-could}
use Rattle.cacao_cli_session_laws.proofs.UnusedLemmas.{IsEarly, steps-not-used}

-- ---- sites

-- what a file reads as is one of its images
pub record ReadsImages (site : SiteView) : Type 0 where
  pub reads : (file : ℕ) → IsTrue site.disk.told → IsLeft site.disk file site.disk.beat (site.disk.reads file)

pub sound-reads : (site : SiteView) → IsSound site → ReadsImages site
sound-reads site sound = record { reads = sound.reads }

-- so it was before the last line
pub reads-before : (mid new : SiteView) → SaysAtMostALine mid new → ReadsImages new → ReadsImages mid
reads-before mid new (inl is) images = subst ReadsImages is images
reads-before mid new (inr says) images = record {
  reads = λ file told.
      let stays = says.disk.stays file in
      subst (λ (image : List ℕ). IsLeft mid.disk file mid.disk.beat image) stays.reads
      (subst IsTrue (stays.images new.disk.beat (new.disk.reads file) says.disk.goes_on.later (omega arith))
      (images.reads file (subst IsTrue (sym says.disk.goes_on.told) told)));
}

-- ---- the first record of a file

first-of : (o : Option Record) (others : Option (List Record)) (records : List Record) (r : Record) → o ≡ Some r → (o >>= (λ a. others >>= (λ rs. Some (a ∷ rs)))) ≡ Some records → (rest : List Record) × (records ≡ r ∷ rest)
first-of None others records r e f = absurd (cc)
first-of (Some a) None records r e f = absurd (cc)
first-of (Some a) (Some rs) records r e f = (rs, cc)

-- where a file reads as a run, its first entry is the Begin of that run
begins-so : (given : Given) (run : ℕ) (site : SiteView) (seen : Shown) (entries : List (List ℕ)) (first : List ℕ) (others : List (List ℕ)) (r : Record) → ReadsAsRun given run site seen
    → Stands (site.disk.reads 0) entries → entries ≡ first ∷ others → record_of first ≡ Some r → (now : ℕ) × (r ≡ begin_of given run now)
begins-so given run site seen entries first others r is stands are reads =
    let same : is.reads.entries ≡ first ∷ others = one_list (site.disk.reads 0) is.reads.entries entries is.reads.stands stands ∙ are in
    let found = first-of (record_of first) (records_in others) is.records r reads (subst (λ (l : List (List ℕ)). records_in l ≡ Some is.records) same is.reads.reads) in
    let shows : IsShownAfter seen.given seen.run (r ∷ found.0) seen = subst (λ (l : List Record). IsSoFar l seen) found.1 is.so_far in
    let leads = shows.leads in
    (leads.now, (list_heads r (begin_of seen.given seen.run leads.now) found.0 leads.others leads.records_are).0 ∙ ap₂ (λ (g : Given) (n : ℕ). begin_of g n leads.now) is.given_is is.of_run)

same-begin : (run other moment now : ℕ) (books texts : List (List ℕ)) (bind bound : List ℕ) → entry.Begin run moment books bind ≡ entry.Begin other now texts bound → (run ≡ other) × (books ≡ texts) × (bind ≡ bound)
same-begin run other moment now books texts bind bound e = (cc, cc, cc)

pub not-other-run : (given : Given) (run : ℕ) (site : SiteView) (seen : Shown) (held asked : ℕ) → ReadsAsRun given run site seen → RefusesAsEntries given run (site.disk.reads 0) (refusal.OtherRun held asked) → ⊥
not-other-run given run site seen held asked is h = go h.refuses
  where
    go : ((moment : ℕ) × (books : List (List ℕ)) × (bind : List ℕ) × BeginsWith h.entries held moment books bind) × (held ≢ run) × (asked ≡ run) → ⊥
    go (b, apart, e) =
        let found = begins-so given run site seen h.entries b.3.first b.3.others (entry.Begin held b.0 b.1 b.2) is h.stands b.3.are b.3.reads in
        apart (same-begin held run b.0 found.0 b.1 given.texts b.2 given.bind found.1).0

pub not-other-book : (given : Given) (run : ℕ) (site : SiteView) (seen : Shown) (index : ℕ) → ReadsAsRun given run site seen → RefusesAsEntries given run (site.disk.reads 0) (refusal.OtherBook index) → ⊥
not-other-book given run site seen index is h =
    let b = h.refuses in
    let found = begins-so given run site seen h.entries b.3.first b.3.others (entry.Begin run b.0 b.1 b.2) is h.stands b.3.are b.3.reads in
    let same = same-begin run run b.0 found.0 b.1 given.texts b.2 given.bind found.1 in
    elim b.4 [
      | inl differs ↦ differs.differs (ap (λ (l : List (List ℕ)). slice_get l index) same.1)
      | inr differs ↦ differs.1 same.2
    ]

pub not-another : (given : Given) (run : ℕ) (site : SiteView) (seen : Shown) → ReadsAsRun given run site seen → BeginsAnother given run (site.disk.reads 0) → ⊥
not-another given run site seen is (inl h) = not-other-run given run site seen h.0 run is h.1
not-another given run site seen is (inr h) = not-other-book given run site seen h.0 is h.1

-- ---- the file of an engine

-- it reads as its run
abbrev pub reads-run : (given : Given) (run : ℕ) (site : SiteView) (h : HoldsRun given run (site.disk.reads 0)) → ReadsAsRun given run site h.seen
reads-run given run site h = record {
  records = h.records;
  reads = records_of_layout (site.disk.reads 0) h.records h.ranges h.holds;
  so_far = h.so_far;
  given_is = h.given_is;
  of_run = h.run_is;
}

-- where its file reads as before, no record was added
pub opened-none : (many : ℕ) (old mid : SiteView) → mid.disk.reads 0 ≡ old.disk.reads 0 → GainsRecords many old mid → many ≡ 0
opened-none many old mid same g =
    let had : IsRecords (mid.disk.reads 0) g.before = subst (λ (i : List ℕ). IsRecords i g.before) (sym same) g.had in
    let records : g.before ++ g.added ≡ g.before = same_records (mid.disk.reads 0) (g.before ++ g.added) g.before g.has had in
    let long : length (g.before ++ g.added) ≡ length g.before = ap (λ (l : List Record). length l) records in
    let as_many : length g.added ≡ many = g.as_many in
    omega (arith, long, as_many, length-append g.before g.added)

module _ (given : Given) (run most : ℕ) (answers : List OperatorAnswer) (old mid : SiteView) (sound : ReadsImages mid) (told : IsTrue mid.disk.told) (went : Went given run most answers old mid) where
  pub sound-there : ReadsImages went.to.site
  sound-there = subst ReadsImages (sym went.to_is) sound

  pub told-there : IsTrue went.to.site.disk.told
  told-there = subst (λ (s : SiteView). IsTrue s.disk.told) (sym went.to_is) told

  -- ---- which run

  abbrev pub sure-holds : IsJournalSure went.to → HoldsRun given run (mid.disk.reads 0)
  sure-holds sure =
      let w = went.to in
      record {
        records = w.engine.history.records;
        seen = w.engine.history.seen;
        holds = subst (λ (s : SiteView). HoldsRecords w.engine.history.records (s.disk.reads 0)) went.to_is
            (sure.whole.engine.ready sure.whole.whole told-there (w.site.disk.reads 0) (sound-there.reads 0 told-there)).0;
        ranges = sure.whole.engine.history.ranges;
        given_is = went.sums.given.given ∙ went.begins.given_is;
        run_is = went.sums.given.run ∙ went.begins.of_run;
        so_far = sure.whole.engine.history.so_far;
        tasks = sure.whole.engine.history.tasks;
      }

  pub sure-records : IsJournalSure went.to → IsRecords (mid.disk.reads 0) went.to.engine.history.records
  sure-records sure = let h = sure-holds sure in records_of_layout (mid.disk.reads 0) h.records h.ranges h.holds

  -- the file is sure where the session closed
  pub closes-sure : (how : Close) → IsClose how went.to → IsJournalSure went.to
  closes-sure how closes = go went.sums.unbroken.journal
    where
      go : IsJournalSure went.to ⊎ ((r : Record) × UnsureByStep went.start went.to r) → IsJournalSure went.to
      go (inl sure) = sure
      go (inr h) = absurd (closes_are_no_refusals went.to how error.Disk closes (record { cause = disk_failed; lacks = false; phase = h.1.phase; is = refl }))

  pub same-cause : (a b : Cause) (x y : Bool) → refused a x ≡ refused b y → a ≡ b
  same-cause a b x y e = cc

  -- and where it refused, but for a failed disk
  pub refuses-sure : (why : WorldError) → IsRefusal why went.to → IsJournalSure went.to ⊎ (why ≡ error.Disk)
  refuses-sure why is = go went.sums.unbroken.journal
    where
      go : IsJournalSure went.to ⊎ ((r : Record) × UnsureByStep went.start went.to r) → IsJournalSure went.to ⊎ (why ≡ error.Disk)
      go (inl sure) = inl sure
      go (inr h) = inr (is.is ∙ ap refusal_of (same-cause is.cause disk_failed is.lacks false (sym is.phase ∙ h.1.phase)))

  -- ---- how many records

  pub goes-later : GoesOn went.start.site.disk mid.disk
  goes-later = subst (λ (s : SiteView). GoesOn went.start.site.disk s.disk) went.to_is (steps_keep_disk_on went.start went.to went.steps)

  pub told-start : IsTrue went.start.site.disk.told
  told-start = subst (λ (b : Bool). IsTrue b) goes-later.told told

  pub told-middle : IsTrue went.files.middle.disk.told
  told-middle = subst (λ (b : Bool). IsTrue b) went.files.others.goes_on.told told-start

  pub told-old : IsTrue old.disk.told
  told-old = subst (λ (b : Bool). IsTrue b) went.files.journal.opens.only.each.goes_on.told told-middle

  -- the file had the records that the journal was opened with
  pub had-records : IsRecords (old.disk.reads 0) went.start.engine.history.records
  had-records =
      let records = went.start.engine.history.records in
      let image = went.files.middle.disk.reads 0 in
      subst (λ (i : List ℕ). IsRecords i records) went.files.journal.reads
      (records_of_layout image records went.files.journal.whole.engine.history.ranges (went.files.journal.stands told-old))

  pub grown : IsJournalSure went.to → IsRecords (mid.disk.reads 0) (went.start.engine.history.records ++ went.sums.adds.added)
  grown sure = subst (IsRecords (mid.disk.reads 0)) went.sums.adds.is (sure-records sure)

  -- so many were appended
  abbrev pub gains-added : IsJournalSure went.to → GainsRecords (length went.sums.adds.added) old mid
  gains-added sure = record {
    before = went.start.engine.history.records;
    had = had-records;
    added = went.sums.adds.added;
    has = grown sure;
    as_many = refl;
  }

  -- each image that a crash may leave holds the records
  crash-holds : IsJournalSure went.to → AllLeft 0 mid.disk (λ image. IsRecords image went.to.engine.history.records)
  crash-holds sure = subst (λ (s : SiteView). AllLeft 0 s.disk (λ image. IsRecords image went.to.engine.history.records)) went.to_is (λ told image left.
      records_of_layout image went.to.engine.history.records sure.whole.engine.history.ranges (sure.whole.engine.ready sure.whole.whole told image left).0)

  -- not more than may be
  pub kept-within : (start : Start) → start.most ≡ most → IsJournalSure went.to → KeepsWithin start old mid
  kept-within start same sure = record {
    many = length went.sums.adds.added;
    gains = gains-added sure;
    within = let budget = went.sums.budget in omega (arith, budget, same);
    crash = λ told image left records are. subst (IsRecords image)
        (same_records (mid.disk.reads 0) went.to.engine.history.records records (sure-records sure) are) (crash-holds sure told image left);
  }

  -- the journal has the records that it was opened with: none was appended
  pub none-added : IsJournalSure went.to → went.to.engine.history.records ≡ went.start.engine.history.records → GainsRecords 0 old mid
  none-added sure same =
      let records = went.start.engine.history.records in
      let added = went.sums.adds.added in
      let long : length (records ++ added) ≡ length records = ap (λ (l : List Record). length l) (sym went.sums.adds.is ∙ same) in
      subst (λ (n : ℕ). GainsRecords n old mid) (omega (arith, long, length-append records added)) (gains-added sure)

  -- none more may be appended: as many were as may be
  pub gains : IsJournalSure went.to → went.to.notes.left ≡ 0 → GainsRecords most old mid
  gains sure none = let budget = went.sums.budget in subst (λ (n : ℕ). GainsRecords n old mid) (omega (arith, budget, none)) (gains-added sure)

  -- one more may be: fewer were
  pub fewer-added : 1 ≤ went.to.notes.left → length went.sums.adds.added < most
  fewer-added some = let budget = went.sums.budget in omega (arith, budget, some)

  -- so many and no others
  pub gained-many : IsJournalSure went.to → (many : ℕ) → GainsRecords many old mid → many ≡ length went.sums.adds.added
  gained-many sure many g =
      let records = went.start.engine.history.records in
      let added = went.sums.adds.added in
      let before : g.before ≡ records = same_records (old.disk.reads 0) g.before records g.had had-records in
      let all : g.before ++ g.added ≡ records ++ added = same_records (mid.disk.reads 0) (g.before ++ g.added) (records ++ added) g.has (grown sure) in
      let long : length (g.before ++ g.added) ≡ length (records ++ added) = ap (λ (l : List Record). length l) all in
      let first : length g.before ≡ length records = ap (λ (l : List Record). length l) before in
      let as_many : length g.added ≡ many = g.as_many in
      omega (arith, long, first, as_many, length-append g.before g.added, length-append records added)

  -- and as many were appended only where none more may be
  pub spent : IsJournalSure went.to → GainsRecords most old mid → went.to.notes.left ≡ 0
  spent sure g =
      let many : most ≡ length went.sums.adds.added = gained-many sure most g in
      let budget : length went.sums.adds.added + went.to.notes.left ≡ most = went.sums.budget in
      omega (arith, many, budget)

  -- a session that appended none, or could have appended more, did not append as many as may be
  pub not-spent : 1 ≤ most → IsJournalSure went.to → CouldMore went.start went.to → GainsRecords most old mid → ⊥
  not-spent some sure could g = go could
    where
      none_left : went.to.notes.left ≡ 0
      none_left = spent sure g

      go : CouldMore went.start went.to → ⊥
      go (inl more) = omega (arith, more, none_left)
      go (inr same) =
          let records = went.start.engine.history.records in
          let added = went.sums.adds.added in
          let is : records ++ added ≡ records = sym went.sums.adds.is ∙ same in
          let long : length (records ++ added) ≡ length records = ap (λ (l : List Record). length l) is in
          let budget : length added + went.to.notes.left ≡ most = went.sums.budget in
          omega (arith, long, budget, none_left, some, length-append records added)

  pub cause-past : (what : LimitKind) (cause : Cause) → error.Limit what ≡ refusal_of cause → cause ≡ past what
  cause-past what disk_failed e = absurd (cc)
  cause-past what not_said e = absurd (cc)
  cause-past what (run_used agent) e = absurd (cc)
  cause-past what (past other) e = ap past (same e)
    where
      same : error.Limit what ≡ error.Limit other → other ≡ what
      same e = cc
  cause-past what wants_memory e = absurd (cc)

  pub past-more : (what : LimitKind) → (is : IsRefusal (error.Limit what) went.to) → CouldMore went.start went.to
  past-more what is = past-could went.start went.to what is.lacks went.begins.phase went.steps (is.phase ∙ ap (λ (c : Cause). refused c is.lacks) (cause-past what is.cause is.is))

  -- the journal is empty
  pub empty-same : went.to.engine.history.records ≡ [] → CouldMore went.start went.to
  empty-same none = inr (none ∙ sym (first-empty went.start.engine.history.records (sym went.sums.adds.is ∙ none)))
    where
      first-empty : (records : List Record) → records ++ went.sums.adds.added ≡ [] → records ≡ []
      first-empty [] e = refl
      first-empty (r ∷ rs) e = absurd (cc)

  -- ---- a number that is used

  cause-used : (cause : Cause) (agent : ℕ) → error.RunUsed agent ≡ refusal_of cause → cause ≡ run_used agent
  cause-used disk_failed agent e = absurd (cc)
  cause-used not_said agent e = absurd (cc)
  cause-used (run_used other) agent e = ap run_used (same e)
    where
      same : error.RunUsed agent ≡ error.RunUsed other → other ≡ agent
      same e = cc
  cause-used (past what) agent e = absurd (cc)
  cause-used wants_memory agent e = absurd (cc)

  no-act-cause : (why : ActError) (v : ActuatorView) (parcel : Parcel) (before after : World) (cause : Cause) (agent : ℕ) → IsActCause why v parcel before after cause → cause ≡ run_used agent → ⊥
  no-act-cause act_error.Disk v parcel before after cause agent is e = let f : disk_failed ≡ run_used agent = sym is.1 ∙ e in cc
  no-act-cause (act_error.Full needed) v parcel before after cause agent is e = let f = sym is.1 ∙ e in cc
  no-act-cause act_error.Memory v parcel before after cause agent is e = let f : wants_memory ≡ run_used agent = sym is ∙ e in cc
  no-act-cause (act_error.Damaged place) v parcel before after cause agent is e = is
  no-act-cause act_error.Broken v parcel before after cause agent is e = is

  used-phase : (agent : ℕ) (is : IsRefusal (error.RunUsed agent) went.to) → went.to.phase ≡ refused (run_used agent) is.lacks
  used-phase agent is = is.phase ∙ ap (λ (c : Cause). refused c is.lacks) (cause-used is.cause agent is.is)

  pub first-used : (agent : ℕ) → IsRefusal (error.RunUsed agent) went.to → IsFirstWithRun went.to agent
  first-used agent is = subst (λ (p : Phase). Shows p went.start went.to) (used-phase agent is) went.cause.shows

  -- ---- the filters' files

  refused-so : (h : EndedByFilter went.start went.to) → IsRefusal (refusal_of h.cause) went.to
  refused-so h = record { cause = h.cause; lacks = false; phase = h.fails.phase; is = refl }

  -- they are sure where the session closed
  pub closes-filters : (how : Close) → IsClose how went.to → AreFiltersSure went.to
  closes-filters how closes = go went.sums.unbroken.filters
    where
      go : AreFiltersSure went.to ⊎ EndedByFilter went.start went.to → AreFiltersSure went.to
      go (inl sure) = sure
      go (inr h) = absurd (closes_are_no_refusals went.to how (refusal_of h.cause) closes (refused-so h))

  -- and where it found the number used
  pub used-filters : (agent : ℕ) → IsRefusal (error.RunUsed agent) went.to → AreFiltersSure went.to
  used-filters agent is = go went.sums.unbroken.filters
    where
      go : AreFiltersSure went.to ⊎ EndedByFilter went.start went.to → AreFiltersSure went.to
      go (inl sure) = sure
      go (inr h) = absurd (no-act-cause h.error h.v h.parcel h.old went.to h.cause agent h.fails.why
          (same-cause h.cause (run_used agent) false is.lacks (sym h.fails.phase ∙ used-phase agent is)))

  -- the filter of an agent, and what its file holds
  pub record HoldsFilter (agent : ℕ) : Type 0 where
    pub v : ActuatorView
    pub there : slice_get went.to.filters (agent - 1) ≡ Some v
    pub history : IsHistory v.acts
    pub holds : HoldsActs v.acts (mid.disk.reads agent)

  pub there-at : {T : Type 0} (xs : List T) (k : ℕ) → k < length xs → (x : T) × (slice_get xs k ≡ Some x)
  there-at [] k lt = absurd (omega (arith, lt))
  there-at (x ∷ xs) zero lt = (x, refl)
  there-at (x ∷ xs) (suc k) lt = there-at xs k (omega (arith, lt))

  abbrev pub holds-there : AreFiltersSure went.to → (agent : ℕ) → 1 ≤ agent → (v : ActuatorView) → slice_get went.to.filters (agent - 1) ≡ Some v → HoldsFilter agent
  holds-there sure agent low v there =
      let w = went.to in
      let filter : IsFilter v (suc (agent - 1)) w.site = sure.filters.each (agent - 1) v there in
      let same : v.agent ≡ agent = filter.of_agent ∙ omega (arith, low) in
      let stands : HoldsActs v.acts (w.site.disk.reads v.agent) = (filter.ready.images filter.whole told-there (w.site.disk.reads v.agent) (sound-there.reads v.agent told-there)).0 in
      record {
        v = v;
        there = there;
        history = filter.ready.history;
        holds = subst (λ (s : SiteView). HoldsActs v.acts (s.disk.reads agent)) went.to_is (subst (λ (n : ℕ). HoldsActs v.acts (w.site.disk.reads n)) same stands);
      }

  holds-filter : AreFiltersSure went.to → (agent : ℕ) → IsAgent agent → HoldsFilter agent
  holds-filter sure agent is_agent =
      let all : length went.to.filters ≡ 16 = went.sums.grow.many ∙ went.files.others.many in
      let found = there-at went.to.filters (agent - 1) (omega (arith, is_agent.0, is_agent.1, all)) in
      holds-there sure agent is_agent.0 found.0 found.1

  -- none is damaged
  pub filter-whole : AreFiltersSure went.to → (agent place : ℕ) → IsAgent agent → IsDamaged (mid.disk.reads agent) place → ⊥
  filter-whole sure agent place is_agent damaged =
      let h = holds-filter sure agent is_agent in
      acts_undamaged (mid.disk.reads agent) h.v.acts place (acts_of_layout (mid.disk.reads agent) h.v.acts h.history.ranges h.holds) h.history.are damaged

  -- ---- a number that was used

  -- where the file of an agent has an act of the run, its filter has one
  acts-run : AreFiltersSure went.to → (agent : ℕ) → IsAgent agent → (acts : List Act) → IsActs (mid.disk.reads agent) acts → Any (λ (act : Act). act.run ≡ run) acts → HasRun went.to agent
  acts-run sure agent is_agent acts are has =
      let h = holds-filter sure agent is_agent in
      let same : acts ≡ h.v.acts = same_acts (mid.disk.reads agent) acts h.v.acts are (acts_of_layout (mid.disk.reads agent) h.v.acts h.history.ranges h.holds) in
      record {
        v = h.v;
        there = h.there;
        has = subst (λ (n : ℕ). Any (λ (act : Act). act.run ≡ n) h.v.acts) (sym (went.sums.given.run ∙ went.begins.of_run)) (subst (λ (l : List Act). Any (λ (act : Act). act.run ≡ run) l) same has);
      }

  -- the file of its filter has an act of the run
  pub record HasUsed (agent : ℕ) : Type 0 where
    pub acts : List Act
    pub are : IsActs (mid.disk.reads agent) acts
    pub has : Any (λ (act : Act). act.run ≡ run) acts

  pub used : (agent : ℕ) → IsRefusal (error.RunUsed agent) went.to → HasUsed agent
  used agent is =
      let first : IsFirstWithRun went.to agent = first-used agent is in
      let h = holds-there (used-filters agent is) agent first.low first.has.v first.has.there in
      record {
        acts = h.v.acts;
        are = acts_of_layout (mid.disk.reads agent) h.v.acts h.history.ranges h.holds;
        has = subst (λ (n : ℕ). Any (λ (act : Act). act.run ≡ n) h.v.acts) (went.sums.given.run ∙ went.begins.of_run) first.has.has;
      }

  -- it is the least with one
  pub first-least : (agent : ℕ) → IsRefusal (error.RunUsed agent) went.to → (lower : ℕ) → IsAgent lower → lower < agent → (acts : List Act) → IsActs (mid.disk.reads lower) acts
      → Any (λ (act : Act). act.run ≡ run) acts → ⊥
  first-least agent is lower is_agent lt acts are has = (first-used agent is).least lower is_agent.0 lt (acts-run (used-filters agent is) lower is_agent acts are has)

  -- a file without records, and one with an act of the run
  pub record IsUsedRun : Type 0 where
    pub blank : IsRecords (mid.disk.reads 0) []
    pub agent : ℕ
    pub of_agent : IsAgent agent
    pub acts : List Act
    pub are : IsActs (mid.disk.reads agent) acts
    pub has : Any (λ (act : Act). act.run ≡ run) acts

  pub no-records : IsJournalSure went.to → IsRecords (mid.disk.reads 0) [] → went.to.engine.history.records ≡ []
  no-records sure blank = same_records (mid.disk.reads 0) went.to.engine.history.records [] (sure-records sure) blank

  has-run : AreFiltersSure went.to → (u : IsUsedRun) → HasRun went.to u.agent
  has-run sure u = acts-run sure u.agent u.of_agent u.acts u.are u.has

  not-used : IsJournalSure went.to → AreFiltersSure went.to → (IsEarly went.to.phase → ⊥) → IsUsedRun → ⊥
  not-used journal filters late u = elim (steps-not-used went.start went.to went.begins.phase went.steps) [
    | inl none ↦ none (no-records journal u.blank) u.agent u.of_agent.0 u.of_agent.1 (has-run filters u)
    | inr is ↦ late is
  ]

  close-late : (how : Close) → IsClose how went.to → IsEarly went.to.phase → ⊥
  close-late (close.Ended well) c is = subst IsEarly c.turn.phase is
  close-late close.Paused c is = subst IsEarly c.turn.phase is
  close-late (close.Waiting moment) c is = subst IsEarly c is
  close-late close.Flooded c is = subst IsEarly c.phase is
  close-late (close.Asked issue) c is = subst IsEarly c.untold.idle.has_looked.phase is

  -- no session closes so
  pub closes-unused : (how : Close) → IsClose how went.to → IsUsedRun → ⊥
  closes-unused how c u = not-used (closes-sure how c) (closes-filters how c) (close-late how c) u

  -- and none refuses past a limit: an act that would pass it comes of a run that has begun
  pub past-unused : (what : LimitKind) → IsRefusal (error.Limit what) went.to → IsJournalSure went.to → IsUsedRun → ⊥
  past-unused what is journal u = go went.sums.unbroken.filters
    where
      phase-is : went.to.phase ≡ refused (past what) is.lacks
      phase-is = is.phase ∙ ap (λ (c : Cause). refused c is.lacks) (cause-past what is.cause is.is)

      go : AreFiltersSure went.to ⊎ EndedByFilter went.start went.to → ⊥
      go (inl filters) = not-used journal filters (λ early. subst IsEarly phase-is early) u
      go (inr h) =
          let turn : TurnAt (holds h.beat h.parcel) h.old = subst (λ (p : Phase). TurnAt p h.old) h.fails.holds_command.phase (steps_in_turn went.start h.old went.begins.phase h.before) in
          turn.0.may.begun (sym (ap (λ (v : EngineView). v.history.records) h.fails.engine) ∙ no-records journal u.blank)
