use Rattle.std.proofs.Common.{◌≡◌, ◌++◌, drop}
use Rattle.cacao_view_preflight.specs.Warnings.{each, of_inner_variables}
use Rattle.cacao_view_preflight.proofs.inner_variables.warn_of_inner_variables.Given as goal

abbrev pub invariant-loop-n : goal.invariant-loop-n
invariant-loop-n l =
    l.lines ++ each of_inner_variables l.n (drop l.n l.books) ≡ l.fn.lines ++ each of_inner_variables 0 l.books
