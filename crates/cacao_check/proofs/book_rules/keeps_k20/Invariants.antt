use Rattle.std.proofs.Common.{take}
use Rattle.std.specs.Prelude.{All}
use Rattle.cacao_check.specs.Rules.{VarFits}
use Rattle.cacao_check.proofs.book_rules.keeps_k20.Given as goal

abbrev pub invariant-loop-var : goal.invariant-loop-var
invariant-loop-var l = All VarFits (take l.var-index l.var-items)
