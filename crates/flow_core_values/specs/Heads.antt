-- Scaffold: The branch that a control step takes that takes one at most.
use Rattle.std.specs.Prelude.{⊤}
use Rattle.cacao_book.specs.declared.step_kinds.StepKind.{StepKind}
use Rattle.cacao_book.specs.declared.step_kinds.StepKind.TheVariants as does

-- all steps but `parallel` take one branch at most
abbrev pub HasOneHead : StepKind → Type 0
HasOneHead (does.Parallel next) = ⊥
HasOneHead other = ⊤
