-- Promise: How a fleet closes, and why it refuses once its files are open.
use Rattle.std.specs.Prelude.{◌≡◌, ◌⊎◌, ℕ, ◌<◌, Bool, false, [], Option, Some, None}
use Rattle.flow_core_rules.specs.Changes.{outcome}
use Rattle.flow_core_rules.specs.Moves.{asks, due}
use Rattle.flow_world_steps.specs.Turns.{most_ignored}
use Rattle.flow_world_steps.specs.Worlds.{Cause, refused, rests, run_used, waits}
use Rattle.flow_fleet_sessions.specs.Closes.{refusal_of}
use Rattle.flow_fleet_steps.specs.Errors.{fleet_refusal}
use Rattle.flow_fleet_steps.specs.Turns.{GoesOnAt, IsIdle, IsSettled}
use Rattle.flow_fleet_steps.specs.Worlds.{At, EachBelow, EachRun, FleetWorld}
use Rattle.flow_fleet_steps.specs.declared.close.FleetClose.{FleetClose}
use Rattle.flow_fleet_steps.specs.declared.close.FleetClose.TheVariants as close
use Rattle.flow_fleet_steps.specs.declared.error.FleetError.{FleetError}
use Rattle.flow_fleet_steps.specs.declared.error.FleetError.TheVariants as fleet_error

-- a turn would begin: each run has begun, each command that waits was put, and not too many parcels changed nothing
pub record IsAtTurn (w : FleetWorld) : Type 0 where
  pub phase : w.phase ≡ rests
  pub settled : EachRun w.engines (IsSettled w.site)
  pub calm : w.notes.ignored < most_ignored

-- the run at this place has ended so
abbrev pub EndedAt : FleetWorld → ℕ → Bool → Type 0
EndedAt w place well = At w place (λ v. outcome v.history.seen.lists ≡ Some well)

-- the first run, by place, that ended failed
pub record IsFirstFailed (w : FleetWorld) (run : ℕ) : Type 0 where
  pub place : ℕ
  pub failed : At w place (λ v. (outcome v.history.seen.lists ≡ Some false) × (v.history.seen.run ≡ run))
  pub lower : (other : ℕ) → other < place → EndedAt w other false → ⊥

-- that, or none did
abbrev pub TellsFailed : FleetWorld → Option ℕ → Type 0
TellsFailed w None = (place : ℕ) → EndedAt w place false → ⊥
TellsFailed w (Some run) = IsFirstFailed w run

-- every run has ended
pub record HasEnded (w : FleetWorld) (failed : Option ℕ) : Type 0 where
  pub turn : IsAtTurn w
  pub ended : (place : ℕ) → GoesOnAt w place → ⊥
  pub tells : TellsFailed w failed

-- no record more may be appended, and a Begin is to come: each run at a lower place has begun, and its commands were put
pub record BeginIsToCome (w : FleetWorld) : Type 0 where
  pub phase : w.phase ≡ rests
  pub calm : w.notes.ignored < most_ignored
  pub place : ℕ
  pub empty : At w place (λ v. v.history.records ≡ [])
  pub settled : EachBelow place w.engines (IsSettled w.site)

-- each run has begun, and one goes on
pub record SomeGoesOn (w : FleetWorld) : Type 0 where
  pub turn : IsAtTurn w
  pub place : ℕ
  pub goes_on : GoesOnAt w place

-- a run is to begin or goes on, and no record more may be appended
pub record IsPaused (w : FleetWorld) : Type 0 where
  pub none_left : w.notes.left ≡ 0
  pub more : BeginIsToCome w ⊎ SomeGoesOn w

-- the last parcel was the 1,000,000th that changed no journal
pub record IsFlooded (w : FleetWorld) : Type 0 where
  pub phase : w.phase ≡ rests
  pub many : w.notes.ignored ≡ most_ignored

-- no parcel is there, no run has a move, nothing is due for any, and this is the least question of the first run, by place, that has one
pub record IsAsking (w : FleetWorld) (run issue : ℕ) : Type 0 where
  pub idle : IsIdle w
  pub nothing_due : EachRun w.engines (λ place v. due v.history.seen ≡ None)
  pub place : ℕ
  pub least : At w place (λ v. (asks v.history.seen ≡ Some issue) × (v.history.seen.run ≡ run))
  pub lower : EachBelow place w.engines (λ other v. asks v.history.seen ≡ None)

-- each close exactly where it stands so (no two hold of one world)
abbrev pub IsFleetClose : FleetClose → FleetWorld → Type 0
IsFleetClose (close.Ended failed) w = HasEnded w failed
IsFleetClose close.Paused w = IsPaused w
IsFleetClose (close.Waiting moment) w = w.phase ≡ waits moment
IsFleetClose close.Flooded w = IsFlooded w
IsFleetClose (close.Asked run issue) w = IsAsking w run issue

-- the refusal of a cause; where the number of a run was used, that of the run at the place
abbrev pub IsRefusalFor : FleetError → Cause → FleetWorld → Type 0
IsRefusalFor error (run_used agent) w = At w w.place (λ v. error ≡ fleet_error.RunUsed v.history.seen.run agent)
IsRefusalFor error cause w = error ≡ fleet_refusal 0 0 (refusal_of cause)

-- a call refused, for this cause
pub record IsFleetRefusal (error : FleetError) (w : FleetWorld) : Type 0 where
  pub cause : Cause
  pub lacks : Bool
  pub phase : w.phase ≡ refused cause lacks
  pub is : IsRefusalFor error cause w
