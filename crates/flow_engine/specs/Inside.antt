-- Promise: What an `Engine` keeps.
use Rattle.std.specs.Prelude.{◌≡◌, ◌-◌, List, Some, IfSome, length, slice_get}
use Rattle.run_records.specs.declared.record.Record.{Record}
use Rattle.flow_engine.specs.declared.engine.Engine.TheInside.{Inside}
use Rattle.flow_engine.specs.EngineView.{EngineView}
use Rattle.flow_engine.specs.OpenIssues.{ArePut}

abbrev pub engine_view : Inside → EngineView
engine_view e = record { history = e.history; puts = e.puts }

-- the last of the records is this one
abbrev pub IsLast : List Record → Record → Type 0
IsLast records item = slice_get records (length records - 1) ≡ Some item

-- the issues that were put wait, and the record that was appended last is the last one
pub record IsKept (e : Inside) : Type 0 where
  pub put : ArePut e.history.seen e.puts
  pub last : IfSome e.last (IsLast e.history.records)
