use Rattle.std.proofs.Common.{take}
use Rattle.cacao_check_regions.specs.Declarers.{AddsEach}
use Rattle.cacao_check_regions.proofs.declarers.Declarers.add_all.Given as goal

abbrev pub invariant-loop-var : goal.invariant-loop-var
invariant-loop-var l = AddsEach l.initial.self l.self (take l.var-index l.vars) l.place
