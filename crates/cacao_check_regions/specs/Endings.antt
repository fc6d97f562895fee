-- Promise: Where a path can end.
use Rattle.std.specs.Prelude.{◌≡◌, ◌⊎◌, ℕ, Bool, true, false, None, IsTrue, IsSomeAnd, slice_get}
use Rattle.cacao_book.specs.declared.books.Book.{Book}
use Rattle.cacao_book.specs.declared.steps.Step.{Step}
use Rattle.cacao_book.specs.declared.step_kinds.StepKind.{StepKind}
use Rattle.cacao_book.specs.declared.step_kinds.StepKind.TheVariants.{Start, End, Action, PlaybookAction}
use Rattle.base_graphs.specs.Closure.{Closure}
use Rattle.cacao_check_steps.specs.Links.{GoesTo}

-- a step with branches
abbrev pub is_control : StepKind → Bool
is_control Start = false
is_control End = false
is_control (Action commands agent targets in_args out_args) = false
is_control (PlaybookAction playbook version in_args out_args) = false
is_control _ = true

-- a path can end at the step: an end step, or a control step that goes on to no step after a success
abbrev pub CanEnd : Step → Type 0
CanEnd step = (step.kind ≡ End) ⊎ (IsTrue (is_control step.kind) × (step.completion ≡ None) × (step.success ≡ None))

-- from a step, itself included, a step is reached at which a path can end
abbrev pub ReachesEnd : Book → ℕ → Type 0
ReachesEnd book place = (last : ℕ) × Closure (λ p. p ≡ place) (GoesTo book) last × IsSomeAnd (slice_get book.steps last) CanEnd
