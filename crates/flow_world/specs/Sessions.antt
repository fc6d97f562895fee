-- Promise: A whole session.
use Rattle.std.specs.Prelude.{◌≡◌, ◌⊎◌, ℕ, IsSome, IsTrue, List}
use Rattle.cacao_site.specs.View.{SiteView}
use Rattle.flow_engine_answers.specs.declared.answers.OperatorAnswer.{OperatorAnswer}
use Rattle.flow_laws.specs.Fresh.{IsFresh}
use Rattle.flow_laws.specs.Held.{plain}
use Rattle.flow_laws.specs.Sessions.{IsStart as IsStartAs}
use Rattle.flow_laws.specs.Since.{AgreedSince}
use Rattle.flow_core_rules.specs.Givens.{Given}
use Rattle.flow_world_parts.specs.Causes.{HasCause}
use Rattle.flow_world_parts.specs.Steps.{Steps}
use Rattle.flow_world_parts.specs.Whole.{AddsUp, IsOpened}
use Rattle.flow_world_parts.specs.Worlds.{World}
use Rattle.flow_world_parts.specs.Closes.{IsClose, IsRefusal}
use Rattle.flow_world_parts.specs.Openings.{AreOpen, RefusesOpening}
use Rattle.flow_world_parts.specs.declared.close.Close.{Close}
use Rattle.flow_world_parts.specs.declared.error.WorldError.{WorldError}

-- All files were opened, and what happened from there on, to the site as it is now: the steps, what they add up to, and why they ended.
pub record Went (given : Given) (run most : ℕ) (answers : List OperatorAnswer) (old new : SiteView) : Type 0 where
  pub start : World
  pub files : AreOpen given run old start.site start.engine start.filters
  pub begins : IsOpened start given run most answers
  pub to : World
  pub to_is : to.site ≡ new
  pub steps : Steps start to
  pub sums : AddsUp start to most
  pub cause : HasCause start to

-- it closed so
pub record HasClosed (close : Close) (given : Given) (run most : ℕ) (answers : List OperatorAnswer)
    (old new : SiteView) : Type 0 where
  pub went : Went given run most answers old new
  pub closes : IsClose close went.to

-- it refused, with all files open
pub record RefusesLater (error : WorldError) (given : Given) (run most : ℕ) (answers : List OperatorAnswer)
    (old new : SiteView) : Type 0 where
  pub went : Went given run most answers old new
  pub refuses : IsRefusal error went.to

-- it refused, while files were opened or later
abbrev pub HasRefused : WorldError → Given → ℕ → ℕ → List OperatorAnswer → SiteView → SiteView → Type 0
HasRefused error given run most answers old new =
    RefusesOpening error given run old new ⊎ RefusesLater error given run most answers old new

-- A session may begin here, under a fresh number, and the site tells its files and its parcels. Of lines said before nothing is
-- known where the site doesn't tell them.
pub record IsStart (site : SiteView) (run : ℕ) : Type 0 where
  pub told : IsTrue site.disk.told
  pub puts : IsSome site.link.puts
  pub pending : IsSome site.link.pending
  pub start : IsStartAs plain site
  pub fresh : IsFresh site run site.disk.beat

-- agreement at each beat of the session
abbrev pub KeepsAgreement : SiteView → SiteView → Type 0
KeepsAgreement old new = AgreedSince plain old new
