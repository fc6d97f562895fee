use Rattle.base_dues.specs.Least.{IsLeast}
use Rattle.base_dues.proofs.least.least_in.Given as goal

abbrev pub invariant-loop-number : goal.invariant-loop-number
invariant-loop-number l = IsLeast l.moments l.from l.number l.least
