-- Promise: How a session closes, and why it refuses once its files are open.
use Rattle.std.specs.Prelude.{◌≡◌, ℕ, ◌<◌, Bool, Some, None}
use Rattle.flow_core_rules.specs.Changes.{outcome}
use Rattle.flow_core_rules.specs.Moves.{asks, due}
use Rattle.flow_world_steps.specs.Sides.{AllPut, IsUp}
use Rattle.flow_world_steps.specs.Turns.{IsUntold, most_ignored}
use Rattle.flow_world_steps.specs.Worlds.{Cause, World, disk_failed, not_said, past, refused, rests, run_used, waits, wants_memory}
use Rattle.flow_world_parts.specs.declared.close.Close.{Close}
use Rattle.flow_world_parts.specs.declared.close.Close.TheVariants as close
use Rattle.flow_world_parts.specs.declared.error.WorldError.{WorldError}
use Rattle.flow_world_parts.specs.declared.error.WorldError.TheVariants as error

-- a turn would begin: each issue that waits for a filter was put, and not too many parcels changed nothing
pub record IsAtTurn (w : World) : Type 0 where
  pub phase : w.phase ≡ rests
  pub up : IsUp w.engine w.site
  pub put : AllPut w.engine
  pub calm : w.notes.ignored < most_ignored

-- the run has ended so
pub record HasEnded (w : World) (well : Bool) : Type 0 where
  pub turn : IsAtTurn w
  pub outcome_is : outcome w.engine.history.seen.lists ≡ Some well

-- the run goes on, and no record more may be appended
pub record IsPaused (w : World) : Type 0 where
  pub turn : IsAtTurn w
  pub goes_on : outcome w.engine.history.seen.lists ≡ None
  pub none_left : w.notes.left ≡ 0

-- the last parcel was the 1,000,000th that changed neither journal
pub record IsFlooded (w : World) : Type 0 where
  pub phase : w.phase ≡ rests
  pub many : w.notes.ignored ≡ most_ignored

-- no parcel is there, no move is enabled, no issue that waits has an answer, nothing is due, and this is the least question
pub record IsAsking (w : World) (issue : ℕ) : Type 0 where
  pub untold : IsUntold w
  pub nothing_due : due w.engine.history.seen ≡ None
  pub least : asks w.engine.history.seen ≡ Some issue

-- each close exactly where it stands so (no two hold of one world)
abbrev pub IsClose : Close → World → Type 0
IsClose (close.Ended well) w = HasEnded w well
IsClose close.Paused w = IsPaused w
IsClose (close.Waiting moment) w = w.phase ≡ waits moment
IsClose close.Flooded w = IsFlooded w
IsClose (close.Asked issue) w = IsAsking w issue

-- the refusal of a cause
abbrev pub refusal_of : Cause → WorldError
refusal_of disk_failed = error.Disk
refusal_of not_said = error.Say
refusal_of (run_used agent) = error.RunUsed agent
refusal_of (past what) = error.Limit what
refusal_of wants_memory = error.Memory

-- a call refused, for this cause; whether the line of the last record was said is told by the phase
pub record IsRefusal (error : WorldError) (w : World) : Type 0 where
  pub cause : Cause
  pub lacks : Bool
  pub phase : w.phase ≡ refused cause lacks
  pub is : error ≡ refusal_of cause
