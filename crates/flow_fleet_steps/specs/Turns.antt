-- Promise: In which order a fleet goes: places in turn, and what comes first in a turn.
use Rattle.std.specs.Prelude.{◌≡◌, ◌≢◌, ℕ, ◌+◌, ◌-◌, ◌<◌, ◌≤◌, ◌==◌, max, min, nat_le, List, [], ◌∷◌, length, Option, Some, None, IfSome, slice_get, if◌then◌else◌}
use Rattle.std.specs.Option.{option_map_or}
use Rattle.cacao_site.specs.Sound.{IsSound}
use Rattle.cacao_site.specs.View.{SiteView}
use Rattle.base_dues.specs.Pairs.{IsFirstBy}
use Rattle.flow_core_rules.specs.Changes.{outcome}
use Rattle.flow_core_rules.specs.Moves.{due, enabled_move}
use Rattle.flow_world_steps.specs.EngineCalls.{put_deadline}
use Rattle.flow_world_steps.specs.EngineView.{EngineView}
use Rattle.flow_world_steps.specs.OpenIssues.{IsNextPut}
use Rattle.flow_world_steps.specs.Sides.{AllPut, IsUp, IsWhole}
use Rattle.flow_world_steps.specs.Turns.{most_ignored}
use Rattle.flow_world_steps.specs.Worlds.{looked, rests}
use Rattle.flow_fleet_laws.specs.Views.{seen_from}
use Rattle.flow_fleet_steps.specs.Worlds.{At, EachRun, FleetWorld}

-- the greatest moment of a last record, 0 where there is none
abbrev pub last_of : List EngineView → ℕ
last_of [] = 0
last_of (v ∷ engines) = max v.history.seen.moment (last_of engines)

-- the file of the run at a place holds its records
abbrev pub StandsAt : SiteView → ℕ → EngineView → Type 0
StandsAt site place v = IsWhole v (seen_from place site)

-- the run at a place has begun, and each of its issues that waits for a filter was put
pub record IsSettled (site : SiteView) (place : ℕ) (v : EngineView) : Type 0 where
  pub up : IsUp v (seen_from place site)
  pub put : AllPut v

-- the run goes on
abbrev pub GoesOnAt : FleetWorld → ℕ → Type 0
GoesOnAt w place = At w place (λ v. outcome v.history.seen.lists ≡ None)

-- A turn begins with a take: each run has begun, some go on, a record more may be appended, and not too many parcels changed
-- nothing.
pub record BeginsTurn (w : FleetWorld) : Type 0 where
  pub phase : w.phase ≡ rests
  pub sound : IsSound w.site
  pub settled : EachRun w.engines (IsSettled w.site)
  pub on : ℕ  -- the place of one that goes on
  pub goes_on : GoesOnAt w on
  pub budget : 1 ≤ w.notes.left
  pub calm : w.notes.ignored < most_ignored

-- the take of this turn found no parcel
pub record HasLooked (w : FleetWorld) : Type 0 where
  pub phase : w.phase ≡ looked
  pub sound : IsSound w.site
  pub settled : EachRun w.engines (IsSettled w.site)
  pub on : ℕ
  pub goes_on : GoesOnAt w on
  pub budget : 1 ≤ w.notes.left

-- ---- moves

-- a move of the run is enabled, and none is
abbrev pub HasMove : ℕ → EngineView → Type 0
HasMove now v = enabled_move v.history.seen now ≢ None

abbrev pub HasNoMove : ℕ → EngineView → Type 0
HasNoMove now v = enabled_move v.history.seen now ≡ None

-- how far a place is behind another, once around the circle of n places
abbrev pub from_to : ℕ → ℕ → ℕ → ℕ
from_to n turn place = if nat_le turn place then place - turn else place + n - turn

-- the place behind this one in the circle
abbrev pub turn_after : ℕ → ℕ → ℕ
turn_after n place = if place + 1 == n then 0 else place + 1

-- this place has a move at this moment, and none has that comes before it from the turn on
pub record IsTurnOf (engines : List EngineView) (turn now place : ℕ) : Type 0 where
  pub v : EngineView
  pub there : slice_get engines place ≡ Some v
  pub has : HasMove now v
  pub first : (other : ℕ) → from_to (length engines) turn other < from_to (length engines) turn place
      → (x : EngineView) → slice_get engines other ≡ Some x → HasNoMove now x

-- no run has a move
pub record IsIdle (w : FleetWorld) : Type 0 where
  pub has_looked : HasLooked w
  pub none : EachRun w.engines (λ place. HasNoMove w.site.clock.now)

-- ---- what runs out

-- no issue of the run that was put is at or past its deadline
abbrev pub HasNoneOverdue : ℕ → EngineView → Type 0
HasNoneOverdue now v = IsFirstBy now (put_deadline v) None

-- nor is one of any run
pub record IsOnTime (w : FleetWorld) : Type 0 where
  pub idle : IsIdle w
  pub none : EachRun w.engines (λ place. HasNoneOverdue w.site.clock.now)

-- the moment of no resend of the run has come
pub record HasNoResend (now : ℕ) (v : EngineView) : Type 0 where
  pub resend : Option (ℕ × ℕ)  -- the moment and the issue of the next one
  pub next : IsNextPut v.puts resend
  pub later : IfSome resend (λ next. now < next.0)

-- nor of any
pub record IsUpToDate (w : FleetWorld) : Type 0 where
  pub on_time : IsOnTime w
  pub none : EachRun w.engines (λ place. HasNoResend w.site.clock.now)

-- ---- what comes next

-- what comes next of a run: the least of what is due and the next resend
pub record ComesNextOf (v : EngineView) (moment : ℕ) : Type 0 where
  pub at : ℕ
  pub due_is : due v.history.seen ≡ Some at
  pub resend : Option (ℕ × ℕ)
  pub next : IsNextPut v.puts resend
  pub is : moment ≡ option_map_or (λ next. min at next.0) resend at

-- and of all runs: the least of these
pub record IsLeastNext (engines : List EngineView) (moment : ℕ) : Type 0 where
  pub place : ℕ
  pub v : EngineView
  pub there : slice_get engines place ≡ Some v
  pub of_one : ComesNextOf v moment
  pub least : (other later : ℕ) (x : EngineView) → slice_get engines other ≡ Some x → ComesNextOf x later → moment ≤ later

-- and of the fleet, where nothing else is to be done
pub record ComesNext (w : FleetWorld) (moment : ℕ) : Type 0 where
  pub up_to_date : IsUpToDate w
  pub next : IsLeastNext w.engines moment
