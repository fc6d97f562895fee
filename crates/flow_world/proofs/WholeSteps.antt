-- A whole session, from what followed once its files were open.
use Rattle.std.proofs.Common.{◌≡◌, inr, ℕ, List, refl, subst}
use Rattle.std.specs.Prelude.{Result, Ok, Err, IfOk, IfErr}
use Rattle.cacao_site.specs.Sound.{IsSound}
use Rattle.cacao_site.specs.View.{SiteView}
use Rattle.flow_engine_answers.specs.declared.answers.OperatorAnswer.{OperatorAnswer}
use Rattle.flow_world_parts.specs.EngineView.{EngineView}
use Rattle.flow_core_rules.specs.Givens.{Given}
use Rattle.flow_world_parts.specs.ActuatorView.{ActuatorView}
use Rattle.flow_world_parts.specs.Steps.{Steps}
use Rattle.flow_world_parts.specs.Whole.{IsOpened, blank_notes}
use Rattle.flow_world_parts.specs.Worlds.{World, opened}
use Rattle.flow_world_parts.proofs.Caused.{steps_cause}
use Rattle.flow_world_parts.proofs.Whole.{steps_add_up}
use Rattle.flow_world_parts.specs.Leads.{ClosesAt, EndedAt, IsNewTo, RefusesAt, at}
use Rattle.flow_world_parts.specs.Openings.{AreOpen}
use Rattle.flow_world.specs.Sessions.{HasClosed, HasRefused, IsStart, KeepsAgreement, Went}
use Rattle.flow_world_parts.specs.declared.close.Close.{Close}
use Rattle.flow_world_parts.specs.declared.error.WorldError.{WorldError}
use Rattle.flow_world_parts.proofs.OpenSteps.{ready_after, whole_after}
use Rattle.flow_world.proofs.Quiet.{went_agrees}

pub new_to : (answers : List OperatorAnswer) (most : ℕ) → IsNewTo answers most (blank_notes most answers)
new_to answers most = record { answers_are = refl; left = refl; ignored = refl }

module _ (given : Given) (run most : ℕ) (answers : List OperatorAnswer) (old site new : SiteView) (v : EngineView) (filters : List ActuatorView) (files : AreOpen given run old site v filters) where
  abbrev start : World
  start = at site v filters (blank_notes most answers) opened

  begins : IsOpened start given run most answers
  begins = record {
    phase = refl;
    whole = whole_after files.middle site v filters 16 files.others files.journal.whole;
    given_is = files.journal.given_is;
    of_run = files.journal.of_run;
    no_puts = files.journal.no_puts;
    filters = ready_after files.middle site filters files.others;
    notes = refl;
  }

  went : (to : World) → Steps start to → to.site ≡ new → Went given run most answers old new
  went to steps is = record {
    start = start;
    files = files;
    begins = begins;
    to = to;
    to_is = is;
    steps = steps;
    sums = steps_add_up start to given run most answers begins steps;
    cause = steps_cause start to refl steps;
  }

  pub closed : (close : Close) → ClosesAt close new start → HasClosed close given run most answers old new
  unfolding went
  closed close is = record { went = went is.to is.steps is.left_is; closes = is.closes }

  pub refused : (error : WorldError) → RefusesAt error new start → HasRefused error given run most answers old new
  unfolding went
  refused error is = inr (record { went = went is.to is.steps is.left_is; refuses = is.refuses })

  pub agrees : (result : Result Close WorldError) → IsSound old → EndedAt result new start → IsStart old run → KeepsAgreement old new
  agrees (Ok close) sound is begin = subst (λ (s : SiteView). KeepsAgreement old s) is.left_is (went_agrees given run old start is.to sound files files.journal.of_run refl is.steps begin)
  agrees (Err error) sound is begin = subst (λ (s : SiteView). KeepsAgreement old s) is.left_is (went_agrees given run old start is.to sound files files.journal.of_run refl is.steps begin)

  pub each_closed : (result : Result Close WorldError) → EndedAt result new start → IfOk result (λ close. HasClosed close given run most answers old new)
  each_closed (Ok close) is = closed close is
  each_closed (Err error) is = tt

  pub each_refused : (result : Result Close WorldError) → EndedAt result new start → IfErr result (λ error. HasRefused error given run most answers old new)
  each_refused (Ok close) is = tt
  each_refused (Err error) is = refused error is
