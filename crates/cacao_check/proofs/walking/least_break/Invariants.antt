use Rattle.cacao_check.specs.Walk.{KeptBefore}
use Rattle.cacao_check.proofs.walking.least_break.Given as goal

abbrev pub invariant-loop-number : goal.invariant-loop-number
invariant-loop-number l = KeptBefore l.books l.mode l.number
