-- Promise: A session of the engine's end of a wire.
use Rattle.std.specs.Prelude.{◌≡◌, ◌⊎◌, ℕ, List, [], Some}
use Rattle.cacao_site.specs.View.{SiteView}
use Rattle.flow_core_rules.specs.Givens.{Given}
use Rattle.flow_engine_answers.specs.declared.answers.OperatorAnswer.{OperatorAnswer}
use Rattle.flow_world_steps.specs.Causes.{HasCause}
use Rattle.flow_world_steps.specs.Steps.{Steps}
use Rattle.flow_world_steps.specs.Whole.{AddsUp, IsOpened}
use Rattle.flow_world_steps.specs.Worlds.{World}
use Rattle.flow_world_parts.specs.Closes.{IsClose, IsRefusal}
use Rattle.flow_world_parts.specs.Openings.{IsJournalOpen, RefusesJournal}
use Rattle.flow_world_parts.specs.declared.close.Close.{Close}
use Rattle.flow_world_parts.specs.declared.error.WorldError.{WorldError}
use Rattle.oc2_wire.specs.Errors.{wire_error}
use Rattle.oc2_wire.specs.declared.error.WireError.{WireError}

-- Its file was opened, and no filter stands beside its engine. What happened from there on, to the site as it is now: the steps, what they
-- add up to, and why they ended.
pub record Serves (given : Given) (run most : ℕ) (answers : List OperatorAnswer) (old new : SiteView) : Type 0 where
  pub start : World
  pub journal : IsJournalOpen given run old start.site start.engine
  pub alone : start.filters ≡ []
  pub begins : IsOpened start given run most answers
  pub to : World
  pub to_is : to.site ≡ new
  pub steps : Steps start to
  pub sums : AddsUp start to most
  pub cause : HasCause start to

-- it closed so
pub record HasServed (close : Close) (given : Given) (run most : ℕ) (answers : List OperatorAnswer)
    (old new : SiteView) : Type 0 where
  pub serves : Serves given run most answers old new
  pub closes : IsClose close serves.to

-- its file could not be opened
pub record RefusesFirst (error : WireError) (given : Given) (run : ℕ) (old new : SiteView) : Type 0 where
  pub why : WorldError
  pub journal : RefusesJournal why given run old new
  pub is : wire_error why ≡ Some error

-- it refused, with its file open
pub record RefusesServing (error : WireError) (given : Given) (run most : ℕ) (answers : List OperatorAnswer)
    (old new : SiteView) : Type 0 where
  pub serves : Serves given run most answers old new
  pub why : WorldError
  pub refuses : IsRefusal why serves.to
  pub is : wire_error why ≡ Some error

-- it refused, while its file was opened or later
abbrev pub HasRefused : WireError → Given → ℕ → ℕ → List OperatorAnswer → SiteView → SiteView → Type 0
HasRefused error given run most answers old new =
    RefusesFirst error given run old new ⊎ RefusesServing error given run most answers old new
