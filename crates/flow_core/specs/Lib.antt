pub mod Comings
pub mod Flows
pub mod MoveKinds
pub mod TakenRecords
pub mod Views
pub use Rattle.flow_core_plans.specs.SetupLaws
pub use Rattle.flow_core_plans.specs.SetupReading
pub use Rattle.flow_core_plans.specs.Setups
