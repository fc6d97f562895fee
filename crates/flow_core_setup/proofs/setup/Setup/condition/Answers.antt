use Rattle.std.proofs.Common.{◌∙◌, ap}
use Rattle.std.specs.Prelude.{option_map}
use Rattle.cacao_cond.specs.Trees.{tree_of}
use Rattle.flow_core_rules.specs.Givens.{step_at}
use Rattle.flow_core_setup.proofs.SetupParts.{condition_read, tree_behind}
use Rattle.flow_core_setup.proofs.setup.Setup.condition.Goals as goal

pub returns : goal.returns
returns c =
    tree_behind c.as_ref.result ∙ ap (option_map tree_of) c.as_ref.ensures.value
    ∙ condition_read c.conditions_are_spelled.ensures c.args.self.now (step_at c.args.self.now c.args.book c.args.step) c.in-Some.parts.now c.in-Some.ensures
