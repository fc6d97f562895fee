use Rattle.std.proofs.Common.{take}
use Rattle.std.specs.Prelude.{All}
use Rattle.cacao_check.specs.Rules.{CanBeSent}
use Rattle.cacao_check.proofs.step_rules.keeps_k13.Given as goal

abbrev pub invariant-loop-at : goal.invariant-loop-at
invariant-loop-at l = All CanBeSent (take l.at l.commands)
