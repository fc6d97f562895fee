-- Scaffold: The names that a step uses, as a list from what is read of it.
use Rattle.std.specs.Prelude.{ℕ, List, [], ◌++◌, Option, option_to_list}
use Rattle.std.specs.Option.{option_map_or}
use Rattle.std.specs.List.{flat_map}
use Rattle.cacao_cond.specs.Trees.{tree_of}
use Rattle.cacao_cond.specs.Names.{named, with_names}
use Rattle.cacao_cond.specs.declared.trees.Cond.{Cond}
use Rattle.cacao_book.specs.declared.steps.Step.{Step}
use Rattle.cacao_check_steps.specs.declared.parts.Parts.{Parts}
use Rattle.cacao_check_steps.specs.Uses.{commands_of, in_args_of, out_args_of, sent_names}

abbrev pub condition_names : Option Cond → List (List ℕ)
condition_names cond = option_map_or (λ c. with_names [] (named (tree_of c))) cond []

abbrev pub used_names : Step → Parts → List (List ℕ)
used_names step parts =
    condition_names parts.condition ++ option_to_list parts.subject ++ in_args_of step.kind ++ out_args_of step.kind
    ++ flat_map sent_names (commands_of step.kind)
