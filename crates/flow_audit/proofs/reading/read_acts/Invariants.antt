use Rattle.run_records.specs.Reading.{act_of}
use Rattle.run_records.specs.Ranges.{ActInRange}
use Rattle.flow_audit.proofs.ReadLemmas.{ReadUpTo}
use Rattle.flow_audit.proofs.reading.read_acts.Given as goal

abbrev pub invariant-loop-entry : goal.invariant-loop-entry
invariant-loop-entry l = ReadUpTo act_of ActInRange l.entry-items l.entry-index l.acts.items
