use Rattle.flow_core_rules.proofs.LineLemmas.{records_have_lines, lines_fix_records, others_are_no_records}
use Rattle.flow_core_rules.proofs.laws.record_lines_differ.Goals as goal

pub returns-clause-records : goal.returns-clause-records
returns-clause-records c = records_have_lines

pub returns-clause-numbers : goal.returns-clause-numbers
returns-clause-numbers c = lines_fix_records

pub returns-clause-others : goal.returns-clause-others
returns-clause-others c = others_are_no_records
