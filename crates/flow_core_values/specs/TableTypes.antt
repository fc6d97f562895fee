-- Scaffold: The types of the tables, for the crates above.
pub use Rattle.flow_core_tables.specs.declared.planned.Planned.{Planned}
pub use Rattle.flow_core_tables.specs.declared.tables.Tables.{Tables}
pub use Rattle.flow_core_tables.specs.declared.tables.Wait.{Wait}
