pub mod Sessions
pub use Rattle.flow_world.specs.Openings
pub use Rattle.flow_world.specs.WorldError
pub use Rattle.flow_world.specs.Closes
