use Rattle.std.proofs.Common.{sym, ap, ◌∙◌}
use Rattle.serde_json.specs.Find.{get_member}
use Rattle.flow_core_texts.proofs.ContentLemmas.{member_here, member_behind}
use Rattle.flow_core_texts.proofs.contents.Entries.member.Goals as goal

pub returns-then-eq : goal.returns-then-eq
returns-then-eq c =
    member_here c.args.name.now c.as_slice-entries.result.now c.loop-entry.entry-index c.entry-item.result c.text.result.now c.loop-entry-test.true c.entry-item.is c.text.ensures (sym c.if-eq.ensures) c.loop-entry.invariant
    ∙ ap (get_member c.args.name.now) c.as_slice-entries.ensures.value

pub loop-entry-preserved : goal.loop-entry-preserved
loop-entry-preserved c =
    member_behind c.args.name.now c.as_slice-entries.result.now c.loop-entry.entry-index c.entry-item.result c.text.result.now c.loop-entry-test.true c.entry-item.is c.text.ensures (sym c.if-eq.ensures) c.loop-entry.invariant
