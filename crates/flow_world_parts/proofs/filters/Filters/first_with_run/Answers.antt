use Rattle.std.proofs.Common.{ap, arith, length}
use Rattle.flow_world_parts.proofs.HandSteps.{none_more}
use Rattle.flow_world_parts.proofs.filters.Filters.first_with_run.Goals as goal

pub loop-agent-preserved : goal.loop-agent-preserved
loop-agent-preserved c =
    none_more c.self.inside.list.items c.args.self.now c.args.run c.loop-agent.agent c.index.result.now c.has_run.result c.self.view_is c.loop-agent.auto.agent
    (omega (arith, c.loop-agent-test.true, c.self.inside.list.ok.0, ap length c.self.view_is)) c.index.ensures c.if-has_run.false c.has_run.ensures c.loop-agent.invariant
