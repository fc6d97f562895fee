-- Scaffold: Whether a condition holds where names have their values in a scope.
use Rattle.std.specs.Prelude.{ℕ, Bool, false, List, map, Option, option_and_then}
use Rattle.std.specs.Option.{option_map_or}
use Rattle.cacao_cond.specs.Trees.{AnyTree}
use Rattle.cacao_cond.specs.Names.{named}
use Rattle.cacao_cond.specs.Truth.{holds}
use Rattle.cacao_cond.specs.Worths.{Worth}
use Rattle.cacao_book.specs.declared.step_kinds.StepKind.{StepKind}
use Rattle.cacao_check_steps.specs.Uses.{condition_of as condition_text}
use Rattle.flow_core_rules.specs.Conditions.{condition_of}
use Rattle.flow_core_rules.specs.State.{Lists}
use Rattle.flow_core_rules.specs.Values.{worth_at}

-- names with their values in a scope
abbrev pub worths : Lists → ℕ → List (List ℕ) → List (List ℕ × Worth)
worths s scope names = map (λ name. (name, worth_at s scope name)) names

-- whether a condition holds, if there is one
abbrev pub holds_in : Lists → ℕ → Option AnyTree → Bool
holds_in s scope tree = option_map_or (λ t. holds t (worths s scope (named t))) tree false

-- the condition that the text of a step spells
abbrev pub condition_in : StepKind → Option AnyTree
condition_in kind = option_and_then condition_of (condition_text kind)
