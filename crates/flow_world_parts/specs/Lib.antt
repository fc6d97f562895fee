pub mod Acting
pub mod Clock
pub mod Closes
pub mod Dues
pub mod Errors
pub mod Leads
pub mod Openings
pub mod Used
pub use Rattle.flow_world_steps.specs.EngineView
pub use Rattle.flow_world_steps.specs.EngineError
pub use Rattle.flow_world_steps.specs.Openings as HistoryOpenings
pub use Rattle.flow_world_steps.specs.Causes
pub use Rattle.flow_world_steps.specs.Worlds
pub use Rattle.flow_world_steps.specs.Steps
pub use Rattle.flow_world_steps.specs.Whole
pub use Rattle.flow_world_steps.specs.Agreement
pub use Rattle.slpf_actuator.specs.ActuatorView
