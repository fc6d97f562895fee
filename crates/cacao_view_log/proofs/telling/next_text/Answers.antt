use Rattle.std.proofs.Common.{◌∙◌, ℕ, Option, ap, subst}
use Rattle.std.specs.Prelude.{◌≡◌, IfOk, []}
use Rattle.std.specs.Option.{option_map_or}
use Rattle.flow_core_rules.specs.Lines.{key_of}
use Rattle.cacao_view_log.specs.Texts.{record_text}
use Rattle.cacao_view_log.proofs.telling.next_text.Goals as goal

pub returns : goal.returns
returns c =
    let seen = c.args.flow.now.seen in
    let sent = c.args.senders.now in
    subst (λ (run : ℕ). IfOk c.record_text.result (λ text. text ≡ record_text c.args.form run seen sent c.args.n c.args.item.now)) c.run.ensures
    (c.record_text.ensures seen sent c.sender_for.ensures (c.key_before-step.ensures ∙ ap (λ (task : Option ℕ). option_map_or (key_of seen) task []) c.task_for.ensures))
