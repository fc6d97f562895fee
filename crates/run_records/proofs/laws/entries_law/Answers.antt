use Rattle.run_records.proofs.EntryLemmas.{records_are_short, acts_are_short, records_read_back, acts_read_back}
use Rattle.run_records.proofs.laws.entries_law.Goals as goal

pub returns : goal.returns
returns c = record {
  records_are_short = records_are_short;
  acts_are_short = acts_are_short;
  records_read_back = records_read_back;
  acts_read_back = acts_read_back;
}
