use Rattle.std.specs.Prelude.{List, ℕ, IfSome}
use Rattle.cacao_vars.specs.Declarations.{declared}
use Rattle.cacao_check.specs.Fits.{FitsKind}
use Rattle.std.specs.List.{AllWithin}
use Rattle.flow_core_setup.proofs.bindings.fit_variables.Given as goal

abbrev pub invariant-loop-bound : goal.invariant-loop-bound
invariant-loop-bound l = AllWithin (λ (entry : List ℕ × List ℕ). IfSome (declared l.fn.vars entry.0) (λ var. FitsKind var.kind entry.1)) l.variables 0 l.bound-index
