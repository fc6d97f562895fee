pub mod Laws
pub mod Sessions
pub use Rattle.flow_world_parts.specs.declared.close.Close
pub use Rattle.flow_world_parts.specs.declared.error.WorldError
pub use Rattle.flow_world_parts.specs.Openings
pub use Rattle.flow_world_parts.specs.Closes
pub use Rattle.flow_world_parts.specs.Errors
