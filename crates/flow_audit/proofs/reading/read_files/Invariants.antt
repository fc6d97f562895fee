use Rattle.std.proofs.Common.{◌-◌}
use Rattle.flow_audit.specs.Parts.{AreFilters}
use Rattle.flow_audit.proofs.reading.read_files.Given as goal

abbrev pub invariant-loop-agent : goal.invariant-loop-agent
invariant-loop-agent l = AreFilters l.fn.files (l.agent - 1) l.filters.items
