-- Promise: In which one way a session closes, and that no end hides a fault of the disk.
use Rattle.std.specs.Prelude.{◌≡◌, ℕ, List}
use Rattle.cacao_site.specs.View.{SiteView}
use Rattle.flow_engine_answers.specs.declared.answers.OperatorAnswer.{OperatorAnswer}
use Rattle.flow_core_rules.specs.Givens.{Given}
use Rattle.flow_world_parts.specs.Worlds.{World}
use Rattle.flow_world_parts.specs.Closes.{IsClose, IsRefusal}
use Rattle.flow_world_parts.specs.Openings.{IsSteady}
use Rattle.flow_world.specs.Sessions.{HasClosed, HasRefused}
use Rattle.flow_world_parts.specs.declared.close.Close.{Close}
use Rattle.flow_world_parts.specs.declared.error.WorldError.{WorldError}

-- a session closes in one way only
abbrev pub ClosesAreOne : Type 0
ClosesAreOne = (w : World) (one other : Close) → IsClose one w → IsClose other w → one ≡ other

-- and where it closes it does not refuse
abbrev pub ClosesAreNoRefusals : Type 0
ClosesAreNoRefusals = (w : World) (close : Close) (error : WorldError) → IsClose close w → IsRefusal error w → ⊥

-- a session that closed counted no fault of the disk
abbrev pub ClosesAreSteady : Type 0
ClosesAreSteady = (close : Close) (given : Given) (run most : ℕ) (answers : List OperatorAnswer) (old new : SiteView)
    → HasClosed close given run most answers old new → new.disk.faults ≡ old.disk.faults

-- nor did one that refused, but because the disk failed
abbrev pub RefusalsAreSteady : Type 0
RefusalsAreSteady = (error : WorldError) (given : Given) (run most : ℕ) (answers : List OperatorAnswer) (old new : SiteView)
    → HasRefused error given run most answers old new → IsSteady error old new
