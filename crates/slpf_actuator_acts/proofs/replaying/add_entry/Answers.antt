use Rattle.std.proofs.Common.{◌≡◌, ◌∙◌, ℕ, List, Some, true, false, sym, ap₂, rules}
use Rattle.std.specs.Prelude.{is_some}
use Rattle.run_records.specs.Reading.{act_of}
use Rattle.slpf_rules.specs.declared.rules.Rule.{Rule}
use Rattle.slpf_rules_acts.specs.Acts.{reply_text, table_of}
use Rattle.slpf_actuator_acts.proofs.OpenLemmas.{entries_pushed}
use Rattle.slpf_actuator_acts.proofs.OpenLemmas.{bad_again, may_follow}
use Rattle.slpf_actuator_acts.proofs.replaying.add_entry.Goals as goal

pub returns-then-is_some-clause-bad : goal.returns-then-is_some-clause-bad
returns-then-is_some-clause-bad c = λ e.
    let reads : act_of c.args.entry.now ≡ Some c.in-Some.act = sym c.in_ok-act.ensures.value ∙ c.in-Some.is in
    let some : is_some c.find.result ≡ true = search rules in
    bad_again c.args.history.now c.args.entry.now c.in-Some.act c.find.result reads c.find.ensures some

pub push-requires-clause-follows : goal.push-requires-clause-follows
push-requires-clause-follows c =
    let none : is_some c.find.result ≡ false = search rules in
    let same : c.in_ok-answered.answered.reply ≡ c.in-Some.act.reply = search rules in
    let replies : (moment : ℕ) → c.in_ok-answered.answered.reply ≡ reply_text (table_of c.args.history.now) c.in-Some.act.command moment =
    λ moment. c.in_ok-answered.ensures.reply moment ∙ ap₂ (λ (rules : List Rule) (command : List ℕ). reply_text rules command moment) c.table.ensures c.as_slice.ensures in
    may_follow c.args.history.now c.in-Some.act c.find.result c.in_ok-answered.answered.reply c.find.ensures none replies same

pub returns-clause-added : goal.returns-clause-added
returns-clause-added c = λ _.
    entries_pushed c.args.history.now c.push.new.self c.in-Some.act c.args.entry.now c.in_ok-push.ensures.ok c.in_ok-act.field-0 c.in-Some.is c.in_ok-act.ensures.found
