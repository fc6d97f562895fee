use Rattle.std.proofs.Common.{◌≡◌, length}
use Rattle.cacao_cond.specs.Reading.{skipped}
use Rattle.cacao_cond.proofs.tokens.skip.Given as goal

-- what was passed are spaces
abbrev pub invariant-loop-rest : goal.invariant-loop-rest
invariant-loop-rest l = skipped l.rest ≡ skipped l.text

abbrev pub decreases-loop-rest : goal.decreases-loop-rest
decreases-loop-rest l = length l.rest
