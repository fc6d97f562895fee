use Rattle.std.specs.Prelude.{List, ℕ, IsSomeAnd, IsTrue}
use Rattle.cacao_vars.specs.Declarations.{declared}
use Rattle.std.specs.List.{AllWithin}
use Rattle.flow_core_setup.proofs.bindings.are_external.Given as goal

abbrev pub invariant-loop-bound : goal.invariant-loop-bound
invariant-loop-bound l = AllWithin (λ (entry : List ℕ × List ℕ). IsSomeAnd (declared l.fn.vars entry.0) (λ var. IsTrue var.external)) l.variables 0 l.bound-index
