use Rattle.std.proofs.Common.{◌≡◌, ◌++◌, take, drop}
use Rattle.cacao_vars.specs.References.{name_run}
use Rattle.flow_core_values.proofs.heads.run_of.Given as goal

abbrev pub invariant-loop-place : goal.invariant-loop-place
invariant-loop-place l = name_run l.text ≡ take l.place l.text ++ name_run (drop l.place l.text)
