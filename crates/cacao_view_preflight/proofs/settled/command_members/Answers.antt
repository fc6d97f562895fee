use Rattle.std.proofs.Common.{◌∙◌, ap, ℕ, List, codes}
use Rattle.serde_json.specs.Data.{string}
use Rattle.oc2_msg_targets.specs.Words.{action_word}
use Rattle.cacao_view_preflight.specs.Settled.{args_members, changed, in_object, settled, target_settled}
use Rattle.cacao_view_preflight.proofs.settled.command_members.Goals as goal

pub returns : goal.returns
returns c =
    c.in_ok-settle_args.ensures
    ∙ ap (changed (codes "args") (in_object args_members))
    (c.in_ok-settle_target.ensures
    ∙ ap (changed (codes "target") target_settled)
    (c.in_ok-settle_text.ensures ∙ ap (λ (word : List ℕ). settled (codes "action") (string word) c.remove.new.self) c.word.ensures
    ∙ ap (settled (codes "action") (string (action_word c.args.fitting))) c.remove.ensures.others))
