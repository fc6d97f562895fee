use Rattle.std.proofs.Common.{refl}
use Rattle.flow_core_rules.specs.Values.{text_at}
use Rattle.flow_core_rules.specs.Filled.{replaced}
use Rattle.flow_core_tables.specs.TableFacts.{lists_of}
use Rattle.flow_core_values.proofs.SizeLemmas.{references_done}
use Rattle.flow_core_values.proofs.run.Run.take_replaced.Goals as goal

pub returns : goal.returns
returns c =
    let s = lists_of c.args.self.now.tables in
    references_done (text_at s c.args.scope) c.args.quoted c.parts.result.0.now c.parts.result.1.now (replaced s c.args.scope c.args.phrase.now) c.parts.result.1.now
    c.loop-reference.reference-index c.loop-reference.left c.args.left.now _ c.loop-reference-test.false refl (c.parts.ensures (text_at s c.args.scope)) c.loop-reference.invariant c.take_text-2.ensures
