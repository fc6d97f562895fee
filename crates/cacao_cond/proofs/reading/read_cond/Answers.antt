-- What is read is in the grammar, and what is in the grammar is read.
use Rattle.std.proofs.Common.{◌*◌, length}
use Rattle.cacao_cond.proofs.Sound.{gives_spelled}
use Rattle.cacao_cond.proofs.Again.{gives_grammar, gives_only}
use Rattle.cacao_cond.proofs.reading.read_cond.Goals as goal

pub returns-clause-spelled : goal.returns-clause-spelled
returns-clause-spelled c = gives_spelled (3 * length c.args.text.now) c.args.text.now c.read_condition.result c.read_condition.ensures

pub returns-clause-grammar : goal.returns-clause-grammar
returns-clause-grammar c = gives_grammar c.args.text.now c.read_condition.result c.read_condition.ensures

pub returns-clause-only : goal.returns-clause-only
returns-clause-only c = gives_only c.args.text.now c.read_condition.result c.read_condition.ensures
