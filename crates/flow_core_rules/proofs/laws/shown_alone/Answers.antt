use Rattle.flow_core_rules.proofs.ShownLemmas.{values_shown, edit_shown}
use Rattle.flow_core_rules.proofs.PlacedLemmas.{records_shown, first_shown}
use Rattle.flow_core_rules.proofs.laws.shown_alone.Goals as goal

pub returns-clause-values : goal.returns-clause-values
returns-clause-values c = values_shown

pub returns-clause-edits : goal.returns-clause-edits
returns-clause-edits c = edit_shown

pub returns-clause-records : goal.returns-clause-records
returns-clause-records c = records_shown

pub returns-clause-first : goal.returns-clause-first
returns-clause-first c = first_shown
