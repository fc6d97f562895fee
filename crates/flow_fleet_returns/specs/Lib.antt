pub mod Prefixes
pub mod Costs
pub mod Causes
pub mod Undamaged
pub use Rattle.flow_fleet.specs.Fleets
pub use Rattle.flow_fleet_sums.specs.Sums
pub use Rattle.flow_world_laws.specs.Undamaged as WorldLawUndamaged
