-- What a session that ended well leaves, and what is counted of it.
use Rattle.std.proofs.Common.{◌≡◌, ◌≤◌, ◌⊎◌, inl, inr, ℕ, Bool, true, false, List, [], ◌∷◌, length, refl, sym, subst, ◌∙◌}
use Rattle.cacao_site.specs.DiskCalls.{AllLeft}
use Rattle.cacao_site.specs.View.{SiteView}
use Rattle.flow_engine_history.specs.HistoryView.{HoldsRecords}
use Rattle.flow_engine_answers.specs.declared.answers.OperatorAnswer.{OperatorAnswer}
use Rattle.flow_core.specs.SetupReading.{BreaksRule}
use Rattle.flow_core_rules.specs.Givens.{Given}
use Rattle.flow_world_steps.specs.Sides.{AreFilters}
use Rattle.flow_world_steps.specs.Unbroken.{AreFiltersSure, EndedByFilter}
use Rattle.flow_world_steps.specs.Worlds.{Cause, HasAllFilters, Phase, World, refused, rests}
use Rattle.flow_world_steps.proofs.Beside.{ready_are_all}
use Rattle.flow_world.specs.Sessions.{HasClosed, HasRefused}
use Rattle.flow_world.specs.Close.{Close}
use Rattle.flow_world.specs.Close.TheVariants as close
use Rattle.flow_world.specs.WorldError.{WorldError}
use Rattle.std.specs.Prelude.{IfErr, IfOk, MatchResult, Result, Ok, Err}
use Rattle.cacao_site_memory.specs.declared.site.MemorySite.{MemorySite}
use Rattle.cacao_cli_rehearsal.specs.Books.{rehearsal_text}
use Rattle.cacao_cli_rehearsal.specs.Counts.{Counts, HoldsFilters, HoldsRun, KeepsImages, OpensFew}
use Rattle.cacao_cli_rehearsal.specs.NewSites.{EndsByPlan}
use Rattle.cacao_cli_rehearsal.specs.Plans.{GoesByPlan}
use Rattle.cacao_cli_rehearsal.specs.Rehearsals.{Closes, ClosesOtherwise, FailsToRehearse, FailsToRun, Refuses, Rehearsed, RunsWell, ended_well, is_well, most_records, run_number}
use Rattle.cacao_cli_rehearsal.specs.Settings.{IsAccepted, RefusesText}
use Rattle.cacao_cli_rehearsal.specs.declared.error.RehearsalError.{RehearsalError}
use Rattle.cacao_cli_rehearsal.specs.declared.error.RehearsalError.TheVariants as error
use Rattle.cacao_cli_rehearsal.specs.declared.summary.Summary.{Summary}

pub is_ended_well : (how : Close) → is_well how ≡ true → how ≡ ended_well
is_ended_well (close.Ended true) e = refl
is_ended_well (close.Ended false) e = absurd (cc)
is_ended_well close.Paused e = absurd (cc)
is_ended_well (close.Waiting due) e = absurd (cc)
is_ended_well close.Flooded e = absurd (cc)
is_ended_well (close.Asked issue) e = absurd (cc)

rests_not_refused : (p : Phase) (cause : Cause) (lacks : Bool) → p ≡ rests → p ≡ refused cause lacks → ⊥
rests_not_refused p cause lacks e f = let g : rests ≡ refused cause lacks = sym e ∙ f in cc

filters_sure : (a b : World) → b.phase ≡ rests → AreFiltersSure b ⊎ EndedByFilter a b → AreFiltersSure b
filters_sure a b e (inl sure) = sure
filters_sure a b e (inr over) = absurd (rests_not_refused b.phase _ _ e over.fails.phase)

module _ (given : Given) (run most : ℕ) (answers : List OperatorAnswer) (old new : SiteView) (closed : HasClosed ended_well given run most answers old new) where
  abbrev w : World
  w = closed.went.to

  records_held : AllLeft 0 new.disk (HoldsRecords w.engine.history.records)
  records_held =
      let whole = closed.closes.turn.up.has_file in
      subst (λ (site : SiteView). AllLeft 0 site.disk (HoldsRecords w.engine.history.records)) closed.went.to_is
      (λ told image left. (whole.engine.ready whole.whole told image left).0)

  filters_held : AreFilters w.filters new
  filters_held =
      let sure = filters_sure closed.went.start w closed.closes.turn.phase closed.went.sums.unbroken.filters in
      let all : HasAllFilters w = closed.went.sums.grow.many ∙ closed.went.files.others.many in
      subst (λ (site : SiteView). AreFilters w.filters site) closed.went.to_is (ready_are_all w.filters w.site all sure.filters)

  pub holds_run : HoldsRun new.disk
  holds_run = record { records = w.engine.history.records; holds = records_held }

  pub holds_filters : HoldsFilters new
  holds_filters = record { filters = w.filters; are = filters_held }

-- ---- what is told of the run

without_answers : (given : Given) (how other : Close) (answers : List OperatorAnswer) (old after : SiteView) → how ≡ other → answers ≡ []
    → HasClosed how given run_number most_records answers old after → Closes given other old after
without_answers given how other answers old after same none closed =
    subst (λ (h : Close). HasClosed h given run_number most_records [] old after) same
    (subst (λ (l : List OperatorAnswer). HasClosed how given run_number most_records l old after) none closed)

pub refuses : (given : Given) (why : WorldError) (answers : List OperatorAnswer) (old new : SiteView) → answers ≡ []
    → HasRefused why given run_number most_records answers old new → Refuses given why old new
refuses given why answers old new none told = subst (λ (l : List OperatorAnswer). HasRefused why given run_number most_records l old new) none told

pub closes_otherwise : (given : Given) (how : Close) (answers : List OperatorAnswer) (old new : SiteView) → answers ≡ []
    → HasClosed how given run_number most_records answers old new → is_well how ≡ false → ClosesOtherwise given how old new
closes_otherwise given how answers old new none closed other = record { closed = without_answers given how how answers old new refl none closed; other = other }

module _ (given : Given) (how : Close) (answers : List OperatorAnswer) (old after : SiteView) (none : answers ≡ [])
    (closed : HasClosed how given run_number most_records answers old after) (well : is_well how ≡ true) where
  closes : Closes given ended_well old after
  closes = without_answers given how ended_well answers old after (is_ended_well how well) none closed

  pub run_held : HoldsRun after.disk
  run_held = holds_run given run_number most_records [] old after closes

  pub all_held : HoldsFilters after
  all_held = holds_filters given run_number most_records [] old after closes

  pub runs_well : (new : SiteView) (summary : Summary) → KeepsImages after.disk new.disk → OpensFew after.disk new.disk → new.counts.says ≡ after.counts.says → Counts after summary → RunsWell given old new summary
  runs_well new summary keeps few silent counts = record {
    after = after;
    closed = closes;
    keeps = keeps;
    few = few;
    silent = silent;
    records = counts.records closes.went.to.engine.history.records (records_held given run_number most_records [] old after closes);
    acts = counts.acts closes.went.to.filters (filters_held given run_number most_records [] old after closes);
    rules = counts.rules closes.went.to.filters (filters_held given run_number most_records [] old after closes);
  }

-- a text within the limit was given to the run
module _ (positions : ℕ) (text : List ℕ) (given : Given) (old new : SiteView) (same : text ≡ rehearsal_text positions) (short : length text ≤ 1048576) (accepted : IsAccepted text given) where
  is_short : length (rehearsal_text positions) ≤ 1048576
  is_short = subst (λ (t : List ℕ). length t ≤ 1048576) same short

  is_accepted : IsAccepted (rehearsal_text positions) given
  is_accepted = subst (λ (t : List ℕ). IsAccepted t given) same accepted

  pub fails_then : (r : Result Summary RehearsalError) → IfErr r (FailsToRun given old new) → IfErr r (FailsToRehearse positions old new)
  fails_then (Ok summary) why = tt
  fails_then (Err error.TooLong) why = absurd why
  fails_then (Err (error.Broken told)) why = absurd why
  fails_then (Err (error.Closed how)) why = record { short = is_short; given = given; accepted = is_accepted; fails = why }
  fails_then (Err (error.Refused cause)) why = record { short = is_short; given = given; accepted = is_accepted; fails = why }
  fails_then (Err error.Memory) why = tt

  pub runs_then : (r : Result Summary RehearsalError) → IfOk r (RunsWell given old new) → IfOk r (Rehearsed positions old new)
  runs_then (Ok summary) runs = record { short = is_short; given = given; accepted = is_accepted; runs = runs }
  runs_then (Err why) runs = tt

pub not_read : (positions : ℕ) (text : List ℕ) (site : SiteView) (why : RehearsalError) → text ≡ rehearsal_text positions → length text ≤ 1048576 → RefusesText text why → FailsToRehearse positions site site why
not_read positions text site error.TooLong same short told = absurd told
not_read positions text site (error.Broken told) same short breaks =
    record { short = subst (λ (t : List ℕ). length t ≤ 1048576) same short; breaks = subst (λ (t : List ℕ). BreaksRule (t ∷ []) [] told) same breaks; same = refl }
not_read positions text site (error.Closed how) same short told = absurd told
not_read positions text site (error.Refused cause) same short told = absurd told
not_read positions text site error.Memory same short told = tt

-- where its site went by its plan, so it did whatever came
pub goes_by_plan : (r : Result Summary RehearsalError) (site : MemorySite) → GoesByPlan site → MatchResult r (λ summary. GoesByPlan site) (EndsByPlan site)
goes_by_plan (Ok summary) site goes = goes
goes_by_plan (Err error.TooLong) site goes = tt
goes_by_plan (Err (error.Broken told)) site goes = tt
goes_by_plan (Err (error.Closed how)) site goes = goes
goes_by_plan (Err (error.Refused why)) site goes = goes
goes_by_plan (Err error.Memory) site goes = tt
