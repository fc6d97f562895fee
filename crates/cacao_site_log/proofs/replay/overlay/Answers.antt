-- The bytes that were put, and those that stay.
use Rattle.std.proofs.Common.{arith}
use Rattle.cacao_site_log.proofs.Overlays.{overlaid-start, overlaid-more, overlaid-all}
use Rattle.cacao_site_log.proofs.replay.overlay.Goals as goal

pub loop-p-init : goal.loop-p-init
loop-p-init c = overlaid-start c.args.place c.args.bytes.now c.args.at c.max-first.result c.args.into.now

pub loop-p-preserved : goal.loop-p-preserved
loop-p-preserved c =
    overlaid-more c.args.place c.args.bytes.now c.args.at c.max-first.result c.loop-p.p c.args.into.now c.loop-p.into (omega arith) (omega arith) c.loop-p.invariant

pub returns : goal.returns
returns c = overlaid-all c.args.place c.args.bytes.now c.args.at c.max-first.result c.loop-p.p c.args.into.now c.loop-p.into (omega arith) (omega arith) c.loop-p.invariant
