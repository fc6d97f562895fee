-- Promise: The truth of a condition's text, and the branches that control steps take.
use Rattle.std.specs.Prelude.{ℕ, ◌*◌, Bool, false, List, [], ◌∷◌, length, map, Option, option_to_list, option_map, option_and_then, find, if◌then◌else◌, codes}
use Rattle.std.specs.Option.{option_map_or, option_or}
use Rattle.std.specs.Str.{bytes_eq}
use Rattle.cacao_vars.specs.References.{name_run}
use Rattle.cacao_cond.specs.Trees.{AnyTree}
use Rattle.cacao_cond.specs.Reading.{condition_at}
use Rattle.cacao_cond.specs.Names.{named}
use Rattle.cacao_cond.specs.Truth.{holds}
use Rattle.cacao_book.specs.declared.cases.Case.{Case}
use Rattle.cacao_book.specs.declared.step_kinds.StepKind.{StepKind}
use Rattle.cacao_book.specs.declared.step_kinds.StepKind.TheVariants as does
use Rattle.flow_core_rules.specs.State.{Lists, value_shown}
use Rattle.flow_core_rules.specs.Values.{worth_at}

-- The condition that a text spells. Reading counts down from three times the length, which is enough for each text of the
-- grammar.
abbrev pub condition_of : List ℕ → Option AnyTree
condition_of text = condition_at (3 * length text) text

-- whether the condition of this text holds in a scope
abbrev pub is_true : Lists → ℕ → List ℕ → Bool
is_true s scope text =
    option_map_or (λ tree. holds tree (map (λ name. (name, worth_at s scope name)) (named tree))) (condition_of text) false

-- the step of the case with this value
abbrev pub case_with : List Case → List ℕ → Option (List ℕ)
case_with cases value = option_map (λ case. case.step) (find (λ case. bytes_eq case.value value) cases)

-- the case of the value, else the one of `default`
abbrev pub chosen_case : List Case → Option (List ℕ) → Option (List ℕ)
chosen_case cases value = option_or (option_and_then (case_with cases) value) (case_with cases (codes "default"))

-- The heads of the branches that a control step takes in its scope: of `parallel` each, in order; of `if-condition` the one of
-- its outcome, if it has one; of `while-condition` its branch where the condition holds; of `switch-condition` the chosen case.
-- The subject of a switch is a name and `:value`.
abbrev pub heads : Lists → ℕ → StepKind → List (List ℕ)
heads s scope (does.Parallel next) = next
heads s scope (does.If condition on_true on_false) = if is_true s scope condition then on_true ∷ [] else option_to_list on_false
heads s scope (does.While condition on_true) = if is_true s scope condition then on_true ∷ [] else []
heads s scope (does.Switch subject cases) = option_to_list (chosen_case cases (value_shown s scope (name_run subject)))
heads s scope does.Start = []
heads s scope does.End = []
heads s scope (does.Action commands agent targets in_args out_args) = []
heads s scope (does.PlaybookAction playbook version in_args out_args) = []
