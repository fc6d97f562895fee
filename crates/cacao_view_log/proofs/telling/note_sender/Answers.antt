use Rattle.std.proofs.Common.{◌∙◌, ◌++◌, Option, append-nil, ap, option_to_list, sym}
use Rattle.cacao_view_log.specs.declared.sender.Sender.{Sender}
use Rattle.cacao_view_log.proofs.telling.note_sender.Goals as goal

pub returns-in_default : goal.returns-in_default
returns-in_default c =
    sym (append-nil c.args.senders.now.items) ∙ ap (λ (o : Option Sender). c.args.senders.now.items ++ option_to_list o) c.in_default.ensures

pub returns : goal.returns
returns c = c.in_ok-push.ensures.items ∙ ap (λ (o : Option Sender). c.args.senders.now.items ++ option_to_list o) c.in-Some.ensures
