use Rattle.std.proofs.Common.{◌≡◌, Ok, ap, ◌∙◌}
use Rattle.cacao_json.specs.Tree.{data_of}
use Rattle.cacao_text.specs.Canon.{canon}
use Rattle.oc2_msg.specs.Commands.{answer_of}
use Rattle.oc2_msg_targets.proofs.PutLemmas.{holds_if_ok}
use Rattle.oc2_msg.proofs.LawLemmas.{commands_read_back}
use Rattle.oc2_msg.proofs.command_writing.write_command.Goals as goal

pub returns-clause-back : goal.returns-clause-back
returns-clause-back c =
    holds_if_ok c.canonical.result (canon (data_of c.in_ok-tree.tree)) (λ t. answer_of t ≡ Ok c.args.command.now) c.canonical.ensures
    (ap (λ d. answer_of (canon d)) c.in_ok-tree.ensures ∙ commands_read_back c.args.command.now c.requires)
