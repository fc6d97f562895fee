-- The members of who asked beside the others.
use Rattle.std.proofs.Common.{◌∙◌, ap}
use Rattle.serde_json.specs.Data.{object}
use Rattle.cacao_view_log.specs.Telling.{sender_put}
use Rattle.cacao_view_log.proofs.ObjectLemmas.{told_put}
use Rattle.cacao_view_log.proofs.object.told_object.Goals as goal

pub returns : goal.returns
returns c = λ before by.
    ap object (c.in_ok-put_sender.ensures ∙ ap (sender_put c.args.sender c.args.step.now) (c.in_ok-pairs.ensures before)
    ∙ told_put c.args.run before c.args.n c.args.sender c.args.issue c.args.moment c.args.status c.args.answer.now c.args.step.now by)
