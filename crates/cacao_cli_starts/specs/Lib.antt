pub mod ReadyRuns
pub mod Starting
pub use Rattle.cacao_cli_status_laws.specs.Usage
pub use Rattle.cacao_cli_status_laws.specs.Ended
