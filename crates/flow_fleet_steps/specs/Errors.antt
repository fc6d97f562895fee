-- Promise: How a refusal for one run becomes that of a fleet.
use Rattle.std.specs.Prelude.{ℕ, ◌==◌, if◌then◌else◌}
use Rattle.cacao_site.specs.RunViews.{file_of}
use Rattle.flow_fleet_sessions.specs.WorldError.{WorldError}
use Rattle.flow_fleet_sessions.specs.WorldError.TheVariants as one
use Rattle.flow_fleet_steps.specs.declared.error.FleetError.{FleetError}
use Rattle.flow_fleet_steps.specs.declared.error.FleetError.TheVariants as fleet

-- that of the run with this number, at this place: file 0 of what it sees is its journal
abbrev pub fleet_refusal : ℕ → ℕ → WorldError → FleetError
fleet_refusal place run one.Disk = fleet.Disk
fleet_refusal place run (one.Damaged file at) = fleet.Damaged (if file == 0 then file_of place else file) at
fleet_refusal place run (one.OtherRun held asked) = fleet.OtherRun held asked
fleet_refusal place run (one.OtherBook index) = fleet.OtherBook run index
fleet_refusal place run (one.RunUsed agent) = fleet.RunUsed run agent
fleet_refusal place run (one.Limit what) = fleet.Limit what
fleet_refusal place run one.Say = fleet.Say
fleet_refusal place run one.Memory = fleet.Memory
