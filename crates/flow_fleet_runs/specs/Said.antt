-- Promise: What a whole fleet says: each line of the records that it appended, but perhaps the last one, where it refused.
use Rattle.std.specs.Prelude.{◌≡◌, ℕ, ◌+◌, ◌≤◌, length}
use Rattle.std.proofs.Common.{inl, inr}
use Rattle.cacao_site.specs.LinkCalls.{GainsAll}
use Rattle.cacao_site.specs.View.{SiteView}
use Rattle.flow_fleet_steps.specs.Laws.{FleetWent}
use Rattle.flow_fleet_steps.specs.Openings.{Runs}
use Rattle.flow_fleet_steps.specs.declared.close.FleetClose.{FleetClose}
use Rattle.flow_fleet_steps.specs.declared.error.FleetError.{FleetError}
use Rattle.flow_fleet_steps.specs.declared.error.FleetError.TheVariants as fleet_error
use Rattle.flow_fleet.specs.Fleets.{FleetClosed, FleetRefused}
use Rattle.flow_fleet_runs.specs.Lines.{FleetTells}

-- In the call were said, in order, the lines of the records that it appended, of all runs together, but for so many at the end.
pub record FleetSaysAllBut (lacks : ℕ) (runs : Runs) (most : ℕ) (old new : SiteView) (went : FleetWent runs most old new) : Type 0 where
  pub tells : FleetTells went.start went.to
  pub says : GainsAll old.link.said tells.speaks.said new.link.said
  pub many : length tells.speaks.said + lacks ≡ length tells.adds.added

-- where it closed, all of them
abbrev pub EachFleetCloseSays : Type 0
EachFleetCloseSays =
    (how : FleetClose) (runs : Runs) (most : ℕ) (old new : SiteView) → (closed : FleetClosed how runs most old new)
    → FleetSaysAllBut 0 runs most old new closed.went

-- how many a refusal lacks: that of the last record, where it could not be said, and perhaps where memory was wanted
abbrev pub LacksLines : FleetError → ℕ → Type 0
LacksLines fleet_error.Say lacks = lacks ≡ 1
LacksLines fleet_error.Memory lacks = lacks ≤ 1
LacksLines other lacks = lacks ≡ 0

-- while files were opened nothing was said
abbrev pub SaysRefused : {error : FleetError} {runs : Runs} {most : ℕ} {old new : SiteView}
    → FleetRefused error runs most old new → Type 0
SaysRefused {error} {runs} {most} {old} {new} (inl opening) = new.link.said ≡ old.link.said
SaysRefused {error} {runs} {most} {old} {new} (inr later) =
    (lacks : ℕ) × LacksLines error lacks × FleetSaysAllBut lacks runs most old new later.went

abbrev pub EachFleetRefusalSays : Type 0
EachFleetRefusalSays =
    (error : FleetError) (runs : Runs) (most : ℕ) (old new : SiteView) → (refused : FleetRefused error runs most old new)
    → SaysRefused refused
