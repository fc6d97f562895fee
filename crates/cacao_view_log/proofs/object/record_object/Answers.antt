-- The record is one of its kind.
use Rattle.std.proofs.Common.{◌≡◌, ◌∙◌, Option, ap, sym, subst}
use Rattle.std.specs.Prelude.{IfOk, slice_get}
use Rattle.serde_json.specs.Data.{object}
use Rattle.cacao_json.specs.Tree.{data_of, members_of}
use Rattle.run_records.specs.declared.record.Record.{Record}
use Rattle.cacao_view_log.specs.Objects.{expire_members, record_object, reply_members, told_members}
use Rattle.cacao_view_log.specs.Senders.{sender_for, step_key}
use Rattle.cacao_view_log.specs.declared.sender.Sender.{Sender}
use Rattle.cacao_view_log.proofs.TellLemmas.{step_by}
use Rattle.cacao_view_log.proofs.object.record_object.Goals as goal

pub returns-in-Begin : goal.returns-in-Begin
returns-in-Begin c = λ before sent by at.
    subst (λ (r : Record). IfOk c.begin_object.result (λ tree. data_of tree ≡ record_object c.args.run before sent c.args.n r)) (sym c.in-Begin.is) (c.begin_object.ensures c.args.run before sent)

pub returns-in-Walk : goal.returns-in-Walk
returns-in-Walk c = λ before sent by at.
    subst (λ (r : Record). IfOk c.walk_object.result (λ tree. data_of tree ≡ record_object c.args.run before sent c.args.n r)) (sym c.in-Walk.is)
    (c.walk_object.ensures before sent (at ∙ ap (λ (r : Record). step_key before sent r) c.in-Walk.is))

pub returns-in-Send : goal.returns-in-Send
returns-in-Send c = λ before sent by at.
    subst (λ (r : Record). IfOk c.send_object.result (λ tree. data_of tree ≡ record_object c.args.run before sent c.args.n r)) (sym c.in-Send.is)
    (c.send_object.ensures before sent (at ∙ ap (λ (r : Record). step_key before sent r) c.in-Send.is))

pub returns-in-Reply : goal.returns-in-Reply
returns-in-Reply c = λ before sent by at.
    let r = c.in-Reply in
    let sender : c.args.sender ≡ slice_get sent r.issue = by ∙ ap (λ (x : Record). sender_for sent x) r.is in
    subst (λ (x : Record). IfOk c.reply_object.result (λ tree. data_of tree ≡ record_object c.args.run before sent c.args.n x)) (sym r.is)
    (subst (λ (o : Option Sender). IfOk c.reply_object.result (λ tree. data_of tree ≡ object (members_of (reply_members c.args.run before c.args.n o r.issue r.moment r.status r.rule r.text)))) sender
    (c.reply_object.ensures before (step_by before c.args.sender sent r.issue c.args.step.now sender (at ∙ ap (λ (x : Record). step_key before sent x) r.is))))

pub returns-in-Expire : goal.returns-in-Expire
returns-in-Expire c = λ before sent by at.
    let r = c.in-Expire in
    let sender : c.args.sender ≡ slice_get sent r.issue = by ∙ ap (λ (x : Record). sender_for sent x) r.is in
    subst (λ (x : Record). IfOk c.expire_object.result (λ tree. data_of tree ≡ record_object c.args.run before sent c.args.n x)) (sym r.is)
    (subst (λ (o : Option Sender). IfOk c.expire_object.result (λ tree. data_of tree ≡ object (members_of (expire_members c.args.run before c.args.n o r.issue r.moment)))) sender
    (c.expire_object.ensures before (step_by before c.args.sender sent r.issue c.args.step.now sender (at ∙ ap (λ (x : Record). step_key before sent x) r.is))))

pub returns-in-Upgrade : goal.returns-in-Upgrade
returns-in-Upgrade c = λ before sent by at.
    subst (λ (r : Record). IfOk c.upgrade_object.result (λ tree. data_of tree ≡ record_object c.args.run before sent c.args.n r)) (sym c.in-Upgrade.is) (c.upgrade_object.ensures before sent)

pub returns-in-Ask : goal.returns-in-Ask
returns-in-Ask c = λ before sent by at.
    subst (λ (r : Record). IfOk c.ask_object.result (λ tree. data_of tree ≡ record_object c.args.run before sent c.args.n r)) (sym c.in-Ask.is)
    (c.ask_object.ensures before sent (at ∙ ap (λ (r : Record). step_key before sent r) c.in-Ask.is))

pub returns-in-Told : goal.returns-in-Told
returns-in-Told c = λ before sent by at.
    let r = c.in-Told in
    let sender : c.args.sender ≡ slice_get sent r.issue = by ∙ ap (λ (x : Record). sender_for sent x) r.is in
    subst (λ (x : Record). IfOk c.told_object.result (λ tree. data_of tree ≡ record_object c.args.run before sent c.args.n x)) (sym r.is)
    (subst (λ (o : Option Sender). IfOk c.told_object.result (λ tree. data_of tree ≡ object (members_of (told_members c.args.run before c.args.n o r.issue r.moment r.status r.text)))) sender
    (c.told_object.ensures before (step_by before c.args.sender sent r.issue c.args.step.now sender (at ∙ ap (λ (x : Record). step_key before sent x) r.is))))
