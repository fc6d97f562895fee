-- Promise: Which close a fleet comes to: each exactly where its last world stands so.
use Rattle.std.specs.Prelude.{◌≡◌, ◌↔◌, ℕ, ◌<◌, ◌≤◌, Some, None, IsSome, ⊤}
use Rattle.flow_core_rules.specs.Changes.{outcome}
use Rattle.flow_core_rules.specs.Moves.{asks, due}
use Rattle.flow_world_steps.specs.Turns.{most_ignored}
use Rattle.flow_world_steps.specs.Worlds.{waits}
use Rattle.flow_fleet_steps.specs.Closes.{IsFleetClose, TellsFailed}
use Rattle.flow_fleet_steps.specs.Openings.{IsFleetOpened, Runs}
use Rattle.flow_fleet_steps.specs.Steps.{FleetSteps, OpensClock}
use Rattle.flow_fleet_steps.specs.Turns.{GoesOnAt, HasNoMove, last_of}
use Rattle.flow_fleet_steps.specs.Worlds.{At, EachBelow, EachRun, FleetWorld}
use Rattle.flow_fleet_steps.specs.declared.close.FleetClose.{FleetClose}
use Rattle.flow_fleet_steps.specs.declared.close.FleetClose.TheVariants as close
use Rattle.flow_fleet_sums.specs.Ends.{IsFleetShort}

-- every run has ended
abbrev pub AllHaveEnded : FleetWorld → Type 0
AllHaveEnded w = EachRun w.engines (λ place v. IsSome (outcome v.history.seen.lists))

-- one has not: it is to begin, or goes on
pub record SomeHasNotEnded (w : FleetWorld) : Type 0 where
  pub place : ℕ
  pub goes_on : GoesOnAt w place

-- The clock was asked at the opening, and stands before the greatest moment of a last record: no call came before or after.
pub record WaitsSinceOpening (a b : FleetWorld) : Type 0 where
  pub answer : ℕ
  pub opens : OpensClock answer a b
  pub short : b.phase ≡ waits (last_of a.engines)

-- no run has a move, and nothing is due for any
pub record NothingComes (w : FleetWorld) : Type 0 where
  pub no_move : EachRun w.engines (λ place. HasNoMove w.site.clock.now)
  pub nothing_due : EachRun w.engines (λ place v. due v.history.seen ≡ None)

-- the first run, by place, with an open question, and its least issue
pub record IsFirstAsked (w : FleetWorld) (run issue : ℕ) : Type 0 where
  pub place : ℕ
  pub least : At w place (λ v. (asks v.history.seen ≡ Some issue) × (v.history.seen.run ≡ run))
  pub lower : EachBelow place w.engines (λ other v. asks v.history.seen ≡ None)

-- Nothing comes of itself: a record more may be appended, not too many parcels changed no journal, and a run has not ended.
pub record NeedsOperator (w : FleetWorld) : Type 0 where
  pub budget : 1 ≤ w.notes.left
  pub calm : w.notes.ignored < most_ignored
  pub remains : SomeHasNotEnded w
  pub nothing_comes : NothingComes w

-- how a fleet stands at its last world, from its opening on, for each close
abbrev pub StandsFor : FleetClose → FleetWorld → FleetWorld → Type 0
StandsFor (close.Ended failed) a b = (WaitsSinceOpening a b → ⊥) × AllHaveEnded b × TellsFailed b failed
StandsFor close.Paused a b = (WaitsSinceOpening a b → ⊥) × (b.notes.left ≡ 0) × SomeHasNotEnded b
StandsFor (close.Waiting moment) a b = IsFleetShort b moment
StandsFor close.Flooded a b = b.notes.ignored ≡ most_ignored
StandsFor (close.Asked run issue) a b = (WaitsSinceOpening a b → ⊥) × NeedsOperator b × IsFirstAsked b run issue

-- A fleet that closes does so exactly as its last world stands.
abbrev pub EachFleetClosesExactly : Type 0
EachFleetClosesExactly =
    (a b : FleetWorld) (runs : Runs) (most : ℕ) → IsFleetOpened a runs most → FleetSteps a b
    → (closes : FleetClose) → IsFleetClose closes b → (one : FleetClose) → (closes ≡ one) ↔ StandsFor one a b

-- ---- whichever run failed, whichever asks

abbrev pub IsEnded : FleetClose → Type 0
IsEnded (close.Ended failed) = ⊤
IsEnded other = ⊥

abbrev pub IsAsked : FleetClose → Type 0
IsAsked (close.Asked run issue) = ⊤
IsAsked other = ⊥

-- it has ended exactly where each run has, and asks exactly where an operator is needed, but where it waits since its opening
pub record ClosesByKind (closes : FleetClose) (a b : FleetWorld) : Type 0 where
  pub ended : IsEnded closes ↔ ((WaitsSinceOpening a b → ⊥) × AllHaveEnded b)
  pub asked : IsAsked closes ↔ ((WaitsSinceOpening a b → ⊥) × NeedsOperator b)

abbrev pub EachFleetClosesByKind : Type 0
EachFleetClosesByKind =
    (a b : FleetWorld) (runs : Runs) (most : ℕ) → IsFleetOpened a runs most → FleetSteps a b
    → (closes : FleetClose) → IsFleetClose closes b → ClosesByKind closes a b
