-- A session on a new site finds blank files.
use Rattle.std.proofs.Common.{◌≡◌, ◌⊎◌, inl, inr, refl, sym, ◌∙◌, subst, ap, arith, ℕ, zero, suc, ◌+◌, ◌-◌, ◌<◌, ◌≤◌, Bool, List, [], ◌∷◌, take}
use Rattle.std.specs.Prelude.{IsTrue, Any, Some, Result, Ok, Err, IfErr, slice_get, slice_index_or, ⊤}
use Rattle.cacao_site.specs.Clock.{clock_at}
use Rattle.cacao_site.specs.Counts.{Rose}
use Rattle.cacao_site.specs.SiteCounts.{no_counts}
use Rattle.cacao_site.specs.DiskCalls.{IsLeft}
use Rattle.cacao_site_log.specs.Images.{rest-image}
use Rattle.cacao_site_memory.specs.MemorySite.{view_of}
use Rattle.cacao_site_memory.specs.MemoryView.{memory_view, no_link}
use Rattle.cacao_site_log.specs.Replay.{Call, after_all, at_rest, file_after, is_image}
use Rattle.cacao_site.specs.Sound.{IsSound}
use Rattle.cacao_site.specs.View.{SiteView}
use Rattle.cacao_site_memory.specs.declared.site.MemorySite.{MemorySite}
use Rattle.run_journal.specs.Layout.{Stands}
use Rattle.run_journal.proofs.LayoutLaws.{one_list}
use Rattle.run_records.specs.declared.act.Act.{Act}
use Rattle.slpf_rules_acts.proofs.Acts.{none_are_acts}
use Rattle.slpf_actuator.specs.ActLists.{IsHistory, entries_of}
use Rattle.slpf_actuator.specs.ActuatorView.{ActuatorView, HoldsActs}
use Rattle.slpf_actuator.specs.Damage.{IsDamaged}
use Rattle.slpf_actuator.proofs.Damages.{no_acts_where_damaged}
use Rattle.flow_core.specs.Views.{blank_shown}
use Rattle.flow_engine_history.specs.Laws.{HoldsRun as HoldsRunOf}
use Rattle.flow_engine_history.specs.Openings.{IsRefusedOpening, RefusesImage}
use Rattle.flow_engine_history.specs.declared.error.EngineError.{EngineError}
use Rattle.flow_engine_history.specs.declared.error.EngineError.TheVariants as engine_error
use Rattle.flow_engine_history.proofs.RefusalLaws.{no_run_where_refused}
use Rattle.flow_engine_answers.specs.declared.answers.OperatorAnswer.{OperatorAnswer}
use Rattle.flow_core_rules.specs.Givens.{Given}
use Rattle.flow_world_steps.specs.Causes.{Shows}
use Rattle.flow_world_steps.specs.Worlds.{Cause, Phase, refused, disk_failed, not_said, run_used, past, wants_memory}
use Rattle.flow_world.specs.Closes.{refusal_of}
use Rattle.flow_world.specs.Errors.{opening_refusal}
use Rattle.flow_world.specs.Openings.{OpensFile, OpensFilters, RefusesFile, RefusesOpening}
use Rattle.flow_world.specs.Sessions.{HasRefused, RefusesLater, Went}
use Rattle.flow_world.proofs.FaultLemmas.{refuses-failed, refuses-unsaid}
use Rattle.flow_world.specs.WorldError.{WorldError}
use Rattle.flow_world.specs.WorldError.TheVariants as refusal
use Rattle.cacao_json.specs.Reading.{tree}
use Rattle.cacao_check.specs.Fits.{FitsKind}
use Rattle.flow_core.specs.Setups.{AreAccepted}
use Rattle.cacao_cli_rehearsal.specs.Books.{rehearsal, rehearsal_text}
use Rattle.cacao_cli_rehearsal.specs.Counts.{KeepsImages}
use Rattle.cacao_cli_rehearsal.specs.NewSites.{MayComeOfNew, MayRefuse}
use Rattle.cacao_cli_rehearsal.specs.Plans.{GoesByPlan}
use Rattle.cacao_cli_rehearsal.specs.Rehearsals.{FailsToRehearse, most_records, run_number}
use Rattle.cacao_cli_rehearsal.specs.Settings.{IsNewSite, RefusesText}
use Rattle.cacao_cli_rehearsal.specs.declared.error.RehearsalError.{RehearsalError}
use Rattle.cacao_cli_rehearsal.specs.declared.error.RehearsalError.TheVariants as error
use Rattle.cacao_cli_rehearsal.specs.declared.summary.Summary.{Summary}
use Rattle.cacao_cli_rehearsal.proofs.Closing.{may_close}
use Rattle.cacao_cli_rehearsal.proofs.Held.{keeps_only}
use Rattle.cacao_cli_rehearsal.proofs.Manual.{was_accepted}
use Rattle.cacao_cli_rehearsal.proofs.Used.{finds_first}

-- A refusal for what files held before the session: damage, another run, or an act of this run.
abbrev TellsOfBefore : WorldError → Type 0
TellsOfBefore (refusal.Damaged file place) = ⊤
TellsOfBefore (refusal.OtherRun held asked) = ⊤
TellsOfBefore (refusal.OtherBook index) = ⊤
TellsOfBefore (refusal.RunUsed agent) = ⊤
TellsOfBefore other = ⊥

-- ---- the files

-- a crash now leaves no byte of any file
pub record IsBlank (site : SiteView) : Type 0 where
  pub told : IsTrue site.disk.told
  pub empty : (file : ℕ) (image : List ℕ) → IsLeft site.disk file site.disk.beat image → image ≡ []

take_none : (n : ℕ) (calls : List Call) → calls ≡ [] → take n calls ≡ []
take_none zero [] e = refl
take_none (suc n) [] e = refl
take_none n (call ∷ calls) e = absurd (cc)

index_none : (n : ℕ) (starts : List (List ℕ)) → starts ≡ [] → slice_index_or starts n [] ≡ []
index_none zero [] e = refl
index_none (suc n) [] e = refl
index_none n (start ∷ starts) e = absurd (cc)

blank_image : (n file : ℕ) (image : List ℕ) → IsTrue (is_image (file_after [] (take n []) file) image) → image ≡ []
unfolding after_all
blank_image n file image h =
    rest-image [] image
    (subst (λ (start : List ℕ). IsTrue (is_image (at_rest start) image)) (index_none file [] refl)
    (subst (λ (calls : List Call). IsTrue (is_image (file_after [] calls file) image)) (take_none n [] refl) h))

pub new_is_blank : (site : MemorySite) → IsNewSite site → IsBlank (view_of site)
new_is_blank site new = subst IsBlank (sym new.blank) (record { told = refl; empty = λ file image left. blank_image ((memory_view [] [] 0 0 0 0 0 no_link (clock_at 0) no_counts).disk.beat - 0) file image left })

pub still_blank : (old new : SiteView) → KeepsImages old.disk new.disk → IsBlank old → IsBlank new
still_blank old new keeps blank = record {
  told = subst IsTrue (sym keeps.told) blank.told;
  empty = λ file image left. blank.empty file image (keeps.each file image blank.told left);
}

pub reads_none : (site : SiteView) (file : ℕ) → IsBlank site → IsSound site → site.disk.reads file ≡ []
reads_none site file blank sound = blank.empty file (site.disk.reads file) (sound.reads file blank.told)

stands_none : Stands [] []
stands_none = inl (omega arith, refl)

-- ---- openings leave them so

filter_left : (n : ℕ) (old new : SiteView) (filters : List ActuatorView) → OpensFilters n old new filters → (file : ℕ) (image : List ℕ) → IsTrue old.disk.told
    → IsLeft new.disk file new.disk.beat image → IsLeft old.disk file old.disk.beat image
filter_left n old new filters opens zero image told left =
    subst IsTrue ((opens.others 0 (inl refl)).images new.disk.beat image opens.goes_on.later (omega arith)) left
filter_left n old new filters opens (suc file) image told left = elim (below file n) [
  | inl within ↦ opens.images (suc file) (omega arith) within new.disk.beat image told opens.goes_on.later (omega arith) left
  | inr beyond ↦ subst IsTrue ((opens.others (suc file) (inr beyond)).images new.disk.beat image opens.goes_on.later (omega arith)) left
]
  where
    below : (k m : ℕ) → (suc k ≤ m) ⊎ (m < suc k)
    below k zero = inr (omega arith)
    below zero (suc m) = inl (omega arith)
    below (suc k) (suc m) = elim (below k m) [ inl le ↦ inl (omega (arith, le)) | inr lt ↦ inr (omega (arith, lt)) ]

keeps_filters : (n : ℕ) (old new : SiteView) (filters : List ActuatorView) → OpensFilters n old new filters → KeepsImages old.disk new.disk
keeps_filters n old new filters opens = record {
  told = opens.goes_on.told;
  faults = opens.goes_on.faults;
  each = λ file image told left. filter_left n old new filters opens file image told left;
}

-- ---- nothing is refused for what they hold

holds_none : (given : Given) (run : ℕ) → HoldsRunOf given run []
holds_none given run = record {
  records = [];
  seen = blank_shown given run;
  holds = stands_none;
  ranges = tt;
  given_is = refl;
  run_is = refl;
  so_far = refl;
  tasks = omega arith;
}

none_refused : (given : Given) (run : ℕ) (image : List ℕ) (why : EngineError) → image ≡ [] → RefusesImage given run image why → ⊥
none_refused given run image why none refuses =
    no_run_where_refused given run [] why (subst (λ (i : List ℕ). RefusesImage given run i why) none refuses) (holds_none given run)

no_history : IsHistory []
no_history = record { are = none_are_acts; ranges = tt; few = omega arith }

none_damaged : (image : List ℕ) (place : ℕ) → image ≡ [] → IsDamaged image place → ⊥
none_damaged image place none damaged =
    no_acts_where_damaged [] place [] (subst (λ (i : List ℕ). IsDamaged i place) none damaged) stands_none no_history

of_before : (why : WorldError) (other : WorldError) → why ≡ other → TellsOfBefore why → TellsOfBefore other
of_before why other e is = subst TellsOfBefore e is

module _ (given : Given) (run : ℕ) (old new : SiteView) (blank : IsBlank old) (sound : IsSound new) where
  image_refused : (why : EngineError) → OpensFile 0 old new → RefusesImage given run (new.disk.reads 0) why → ⊥
  image_refused why opens refuses =
      none_refused given run (new.disk.reads 0) why (reads_none new 0 (still_blank old new (keeps_only 0 old new opens.only) blank) sound) refuses

  journal_refused : (why : EngineError) → OpensFile 0 old new → IsRefusedOpening given run why old new → TellsOfBefore (opening_refusal why) → ⊥
  journal_refused engine_error.Disk opens told is = is
  journal_refused (engine_error.Damaged place) opens told is = image_refused (engine_error.Damaged place) opens (told.1 blank.told)
  journal_refused (engine_error.OtherRun held asked) opens told is = image_refused (engine_error.OtherRun held asked) opens (told.2.1 blank.told)
  journal_refused (engine_error.OtherBook index) opens told is = image_refused (engine_error.OtherBook index) opens (told.1 blank.told)
  journal_refused (engine_error.Limit what) opens told is = is
  journal_refused engine_error.Broken opens told is = is
  journal_refused engine_error.Memory opens told is = is

file_refused : (why : WorldError) (agent : ℕ) (old new : SiteView) → IsBlank old → IsSound new → RefusesFile why agent old new → TellsOfBefore why → ⊥
file_refused (refusal.Damaged file place) agent old new blank sound r is =
    none_damaged (new.disk.reads agent) place (reads_none new agent (still_blank old new (keeps_only agent old new r.opens.only) blank) sound) (r.why.2 blank.told)
file_refused (refusal.OtherRun held asked) agent old new blank sound r is = r.why
file_refused (refusal.OtherBook index) agent old new blank sound r is = r.why
file_refused (refusal.RunUsed other) agent old new blank sound r is = r.why
file_refused refusal.Disk agent old new blank sound r is = is
file_refused (refusal.Limit what) agent old new blank sound r is = is
file_refused refusal.Say agent old new blank sound r is = is
file_refused refusal.Memory agent old new blank sound r is = is

opening_refused : (why : WorldError) (given : Given) (run : ℕ) (old new : SiteView) → IsBlank old → IsSound new → RefusesOpening why given run old new → TellsOfBefore why → ⊥
opening_refused why given run old new blank sound (inl r) is = journal_refused given run old new blank sound r.why r.opens r.refused (of_before why (opening_refusal r.why) r.is is)
opening_refused why given run old new blank sound (inr r) is =
    let one = still_blank old r.middle (keeps_only 0 old r.middle r.journal.opens.only) blank in
    let two = still_blank r.middle r.refuses.middle (keeps_filters r.refuses.agent r.middle r.refuses.middle r.refuses.filters r.refuses.before) one in
    file_refused why (r.refuses.agent + 1) r.refuses.middle new two sound r.refuses.refuses is

-- ---- and no filter has an act

no_acts : (acts : List Act) → Stands [] (entries_of acts) → acts ≡ []
no_acts [] stands = refl
no_acts (act ∷ acts) stands = absurd (let none : entries_of (act ∷ acts) ≡ [] = one_list [] (entries_of (act ∷ acts)) [] stands stands_none in cc)

none_has : (run : ℕ) (acts : List Act) → acts ≡ [] → Any (λ (act : Act). act.run ≡ run) acts → ⊥
none_has run acts none has = no_one (subst (λ (l : List Act). Any (λ (act : Act). act.run ≡ run) l) none has)
  where
    no_one : Any (λ (act : Act). act.run ≡ run) [] → ⊥
    no_one has = let lt = has.2 in omega (arith, lt)

-- where a session refuses with its files open, it does not find its number used
module _ (given : Given) (run most : ℕ) (answers : List OperatorAnswer) (old new : SiteView) (blank : IsBlank old) (sound : IsSound new) where
  blank_opened : (middle : SiteView) (filters : List ActuatorView) (there : SiteView) → OpensFile 0 old middle → OpensFilters 16 middle there filters → IsBlank there
  blank_opened middle filters there opens others = still_blank middle there (keeps_filters 16 middle there filters others) (still_blank old middle (keeps_only 0 old middle opens.only) blank)

  not_used : (agent : ℕ) (lacks : Bool) (went : Went given run most answers old new) → went.to.phase ≡ refused (run_used agent) lacks → ⊥
  not_used agent lacks went e =
      let start = went.start in
      let first = finds_first start went.to agent lacks went.begins.phase went.steps e in
      let shown = subst (λ (p : Phase). Shows p start went.to) e went.cause.shows in
      let there : start.site ≡ new = sym first.site ∙ went.to_is in
      let still = blank_opened went.files.middle start.filters start.site went.files.journal.opens went.files.others in
      let empty : start.site.disk.reads (suc (agent - 1)) ≡ [] = reads_none start.site (suc (agent - 1)) still (subst IsSound (sym there) sound) in
      let at : slice_get start.filters (agent - 1) ≡ Some shown.has.v = ap (λ (l : List ActuatorView). slice_get l (agent - 1)) (sym first.filters) ∙ shown.has.there in
      let is = went.files.others.each (agent - 1) shown.has.v at in
      none_has went.to.engine.history.seen.run shown.has.v.acts
      (no_acts shown.has.v.acts (subst (λ (image : List ℕ). HoldsActs shown.has.v.acts image) empty (is.stands still.told))) shown.has.has

  later_refused : (why : WorldError) → RefusesLater why given run most answers old new → TellsOfBefore why → ⊥
  later_refused why later is = by later.refuses.cause refl
    where
      by : (cause : Cause) → later.refuses.cause ≡ cause → ⊥
      by disk_failed e = of_before why refusal.Disk (later.refuses.is ∙ ap refusal_of e) is
      by not_said e = of_before why refusal.Say (later.refuses.is ∙ ap refusal_of e) is
      by (run_used agent) e = not_used agent later.refuses.lacks later.went (later.refuses.phase ∙ ap (λ (c : Cause). refused c later.refuses.lacks) e)
      by (past what) e = of_before why (refusal.Limit what) (later.refuses.is ∙ ap refusal_of e) is
      by wants_memory e = of_before why refusal.Memory (later.refuses.is ∙ ap refusal_of e) is

  pub refuses_nothing_old : (why : WorldError) → HasRefused why given run most answers old new → TellsOfBefore why → ⊥
  refuses_nothing_old why (inl opening) is = opening_refused why given run old new blank sound opening is
  refuses_nothing_old why (inr later) is = later_refused why later is

-- ---- nor does anything fail

-- what did not rise
no_rise : (n m : ℕ) → m ≡ 0 → Rose n m → ⊥
no_rise n m none rose = omega (arith, none, rose)

module _ (given : Given) (old new : SiteView) (blank : IsBlank old) (sound : IsSound new) (steady : new.disk.faults ≡ 0) (heard : new.counts.unsaid ≡ 0) where
  may_refuse : (why : WorldError) → HasRefused why given run_number most_records [] old new → MayRefuse why
  may_refuse refusal.Disk how = no_rise old.disk.faults new.disk.faults steady (refuses-failed given run_number most_records [] old new how)
  may_refuse refusal.Say how = no_rise old.counts.unsaid new.counts.unsaid heard (refuses-unsaid given run_number most_records [] old new how)
  may_refuse refusal.Memory how = tt
  may_refuse (refusal.Limit what) how = tt
  may_refuse (refusal.Damaged file place) how = refuses_nothing_old given run_number most_records [] old new blank sound (refusal.Damaged file place) how tt
  may_refuse (refusal.OtherRun held asked) how = refuses_nothing_old given run_number most_records [] old new blank sound (refusal.OtherRun held asked) how tt
  may_refuse (refusal.OtherBook index) how = refuses_nothing_old given run_number most_records [] old new blank sound (refusal.OtherBook index) how tt
  may_refuse (refusal.RunUsed agent) how = refuses_nothing_old given run_number most_records [] old new blank sound (refusal.RunUsed agent) how tt

-- ---- a rehearsal

-- it did not run
pub not_run : (text : List ℕ) (why : RehearsalError) → RefusesText text why → MayComeOfNew why
not_run text error.TooLong told = absurd told
not_run text (error.Broken told) breaks = tt
not_run text (error.Closed how) told = absurd told
not_run text (error.Refused why) told = absurd told
not_run text error.Memory told = tt

module _ (positions : ℕ) (reads : tree (rehearsal_text positions) ≡ Some (rehearsal positions)) (site left : MemorySite) (sound : IsSound (view_of left)) (goes : GoesByPlan left) where
  may_come : (why : RehearsalError) → IsNewSite site → FailsToRehearse positions (view_of site) (view_of left) why → MayComeOfNew why
  may_come error.TooLong is fails = tt
  may_come (error.Broken told) is fails = tt
  may_come (error.Closed how) is fails =
      may_close fails.given run_number most_records [] (view_of site) (view_of left) how (was_accepted AreAccepted FitsKind positions (rehearsal_text positions) fails.given reads fails.accepted) (omega arith) goes.few goes.reached fails.fails.closed
  may_come (error.Refused why) is fails =
      may_refuse fails.given (view_of site) (view_of left) (new_is_blank site is) sound goes.steady goes.heard why fails.fails
  may_come error.Memory is fails = tt

  pub comes_of_new : (r : Result Summary RehearsalError) → IfErr r (FailsToRehearse positions (view_of site) (view_of left)) → IsNewSite site → IfErr r MayComeOfNew
  comes_of_new (Ok summary) fails is = tt
  comes_of_new (Err why) fails is = may_come why is fails
