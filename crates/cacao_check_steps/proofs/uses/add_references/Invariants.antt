use Rattle.std.proofs.Common.{◌≡◌, ◌++◌, length, IsUtf8}
use Rattle.cacao_check_steps.specs.Uses.{referred}
use Rattle.cacao_check_steps.proofs.uses.add_references.Given as goal

abbrev pub invariant-loop-found : goal.invariant-loop-found
invariant-loop-found l = IsUtf8 l.rest × (l.all.items ++ referred l.rest ≡ l.initial.all.items ++ referred l.text)

abbrev pub decreases-loop-found : goal.decreases-loop-found
decreases-loop-found l = length l.rest
