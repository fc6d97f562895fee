use Rattle.std.proofs.Common.{◌≡◌, ◌++◌, take, drop}
use Rattle.cacao_vars.specs.declared.declarations.Var.{Var}
use Rattle.cacao_vars.specs.Declarations.{placed}
use Rattle.cacao_vars.proofs.declarations.places.place_of.Given as goal

-- the names so far do not come after the new one
abbrev pub invariant-loop-place : goal.invariant-loop-place
invariant-loop-place l = (new : Var) → new.name ≡ l.name → placed l.vars new ≡ take l.place l.vars ++ placed (drop l.place l.vars) new
