-- The members of who sent the command beside the others.
use Rattle.std.proofs.Common.{◌∙◌, ap}
use Rattle.serde_json.specs.Data.{object}
use Rattle.cacao_view_log.specs.Telling.{agent_put, sender_put}
use Rattle.cacao_view_log.proofs.ObjectLemmas.{expire_put}
use Rattle.cacao_view_log.proofs.object.expire_object.Goals as goal

pub returns : goal.returns
returns c = λ before by.
    ap object (c.in_ok-put_sender.ensures
    ∙ ap (sender_put c.args.sender c.args.step.now) (c.in_ok-put_agent.ensures ∙ ap (agent_put c.args.sender) (c.in_ok-pairs.ensures before))
    ∙ expire_put c.args.run before c.args.n c.args.sender c.args.issue c.args.moment c.args.step.now by)
