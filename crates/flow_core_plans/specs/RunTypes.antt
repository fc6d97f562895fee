-- Scaffold: The type of a run as it stands, for the crates above.
pub use Rattle.flow_core_values.specs.declared.run.Run.{Run}
