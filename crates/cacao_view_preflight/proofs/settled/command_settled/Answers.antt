use Rattle.std.proofs.Common.{◌∙◌, ap}
use Rattle.cacao_json.specs.Tree.{data_of}
use Rattle.oc2_msg_targets.specs.declared.actions.Action.{Action}
use Rattle.cacao_view_preflight.specs.Settled.{command_members, fitting_action, in_object}
use Rattle.cacao_view_preflight.proofs.settled.command_settled.Goals as goal

pub returns : goal.returns
returns c =
    c.in_ok-settled.ensures ∙ ap (λ (a : Action). in_object (command_members a) (data_of c.in_ok-copy.copy)) c.fitting_action.ensures
    ∙ ap (in_object (command_members (fitting_action (data_of c.args.tree.now)))) c.in_ok-copy.ensures
