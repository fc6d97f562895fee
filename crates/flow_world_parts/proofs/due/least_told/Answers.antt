use Rattle.flow_world_parts.proofs.Told.{least_with, least_without, never_waits, waits_of}
use Rattle.flow_world_parts.proofs.due.least_told.Goals.{then-is_waiting, else-is_waiting}
use Rattle.flow_world_parts.proofs.due.least_told.Goals as goal

pub loop-told-preserved : goal.loop-told-preserved
loop-told-preserved c = elim c.if-is_waiting.branch [
  | then-is_waiting w ↦ least_with c.args.engine.now c.as_slice-told-items.result.now c.args.answers.now c.as_slice-told-items.ensures.items c.loop-told.told-index c.told-item.result
      c.loop-told-test.true c.told-item.is c.loop-told.least c.if-is_waiting.least w.lesser.result
      (waits_of c.args.engine.now c.flow.result.now.seen c.told-item.result.issue c.is_waiting.result c.flow.ensures.seen c.is_waiting.ensures w.if-is_waiting.true)
      w.lesser.ensures w.least-is c.loop-told.invariant
  | else-is_waiting w ↦ least_without c.args.engine.now c.as_slice-told-items.result.now c.args.answers.now c.as_slice-told-items.ensures.items c.loop-told.told-index c.told-item.result
      c.loop-told-test.true c.told-item.is c.loop-told.least c.if-is_waiting.least
      (never_waits c.args.engine.now c.flow.result.now.seen c.told-item.result.issue c.is_waiting.result c.flow.ensures.seen c.is_waiting.ensures w.if-is_waiting.false)
      w.least-is c.loop-told.invariant
]
