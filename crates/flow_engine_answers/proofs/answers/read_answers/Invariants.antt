use Rattle.std.proofs.Common.{length}
use Rattle.flow_engine_answers.proofs.ToldLines.{IsReadUpTo}
use Rattle.flow_engine_answers.proofs.answers.read_answers.Given as goal

abbrev pub invariant-loop-rest : goal.invariant-loop-rest
invariant-loop-rest l = IsReadUpTo l.bytes l.run l.rest l.number l.list.items

abbrev pub decreases-loop-rest : goal.decreases-loop-rest
decreases-loop-rest l = length l.rest
