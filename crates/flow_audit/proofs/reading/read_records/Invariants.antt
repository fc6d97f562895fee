use Rattle.run_records.specs.Reading.{record_of}
use Rattle.run_records.specs.Ranges.{InRange}
use Rattle.flow_audit.proofs.ReadLemmas.{ReadUpTo}
use Rattle.flow_audit.proofs.reading.read_records.Given as goal

abbrev pub invariant-loop-entry : goal.invariant-loop-entry
invariant-loop-entry l = ReadUpTo record_of InRange l.entry-items l.entry-index l.records.items
