pub mod Completing
pub mod Returning
pub use Rattle.flow_world_laws.specs.Undamaged
pub use Rattle.flow_world_laws.specs.Complete
pub use Rattle.cacao_cli_session.specs.Holding
