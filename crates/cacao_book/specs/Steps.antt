-- Promise: Lists of steps: what each such list keeps, and steps by their keys.
use Rattle.std.specs.Prelude.{ℕ, suc, ◌≤◌, List, [], ◌∷◌, length, All, Option, Some, None, ⊤, slice_get, option_map, option_and_then, if◌then◌else◌}
use Rattle.std.specs.List.{AllByRecursion}
use Rattle.std.specs.Str.{bytes_eq}
use Rattle.cacao_vars.specs.Declarations.{IsBefore}
use Rattle.cacao_book.specs.declared.steps.Step.{Step}
use Rattle.cacao_book.specs.declared.step_kinds.StepKind.{StepKind}
use Rattle.cacao_book.specs.declared.step_kinds.StepKind.TheVariants.{Action, PlaybookAction, Parallel, If, While, Switch}

-- each key comes before all later ones
abbrev pub IsInKeyOrder : List Step → Type 0
IsInKeyOrder [] = ⊤
IsInKeyOrder (step ∷ steps) = AllByRecursion (λ later. IsBefore step.key later.key) steps × IsInKeyOrder steps

-- the limits of what a step holds: 64 items of each list (3 names of `out_args` of an action), 2,048 bytes of a condition
abbrev pub KindKeepsLimits : StepKind → Type 0
KindKeepsLimits (Action commands agent targets ins outs) =
    (length commands ≤ 64) × (length targets ≤ 64) × (length ins ≤ 64) × (length outs ≤ 3)
KindKeepsLimits (PlaybookAction playbook version ins outs) = (length ins ≤ 64) × (length outs ≤ 64)
KindKeepsLimits (Parallel next) = length next ≤ 64
KindKeepsLimits (If condition on_true on_false) = length condition ≤ 2048
KindKeepsLimits (While condition on_true) = length condition ≤ 2048
KindKeepsLimits (Switch subject cases) = length cases ≤ 64
KindKeepsLimits _ = ⊤

abbrev pub KeepsLimits : Step → Type 0
KeepsLimits step = KindKeepsLimits step.kind

-- at most 4,096 steps, keys rising, each within its limits
pub record AreSteps (steps : List Step) : Type 0 where
  pub few : length steps ≤ 4096
  pub order : IsInKeyOrder steps
  pub limits : All KeepsLimits steps

-- the place of the step with a key, and the step
abbrev pub place_of : List Step → List ℕ → Option ℕ
place_of [] key = None
place_of (step ∷ steps) key = if bytes_eq step.key key then Some 0 else option_map suc (place_of steps key)

abbrev pub step_with : List Step → List ℕ → Option Step
step_with steps key = option_and_then (slice_get steps) (place_of steps key)
