use Rattle.std.proofs.Common.{map}
use Rattle.cacao_json.specs.Tree.{data_of}
use Rattle.flow_core_setup.proofs.SetupReasons.{rule_refused}
use Rattle.flow_core_setup.proofs.setup_reading.judge.Goals as goal

pub returns-in-Err-clause-err : goal.returns-in-Err-clause-err
returns-in-Err-clause-err c = rule_refused (map data_of c.args.trees.now) c.in-Err.error c.rule_break.result c.in-Err.ensures.broken c.rule_break.ensures
