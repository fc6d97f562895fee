use Rattle.std.proofs.Common.{◌∙◌, List, arith, sym, subst}
use Rattle.slpf_actuator.specs.ActuatorView.{ActuatorView}
use Rattle.flow_world_parts.specs.Openings.{OpensFilters}
use Rattle.flow_world_parts.proofs.OpenSteps.{agent_opens, agent_refused, all_open, as_many, opens_none}
use Rattle.flow_world_parts.proofs.filters.Filters.open_on.Goals as goal

pub loop-agent-init : goal.loop-agent-init
loop-agent-init g c = record {
  opens = subst (λ (l : List ActuatorView). OpensFilters 0 (g.D.Disk.view c.args.disk.now) (g.D.Disk.view c.args.disk.now) l) (sym (c.reserve.ensures.items ∙ c.new-list.ensures.items))
      (opens_none (g.D.Disk.view c.args.disk.now));
  low = omega arith;
}

pub open_next-requires-clause-next : goal.open_next-requires-clause-next
open_next-requires-clause-next g c =
    as_many c.loop-agent.agent (g.D.Disk.view c.args.disk.now) (g.D.Disk.view c.loop-agent.disk) c.loop-agent.list.items c.loop-agent.invariant.low c.loop-agent.invariant.opens

pub loop-agent-preserved : goal.loop-agent-preserved
loop-agent-preserved g c = record {
  opens = agent_opens c.loop-agent.agent (g.D.Disk.view c.args.disk.now) (g.D.Disk.view c.loop-agent.disk) (g.D.Disk.view c.open_next.new.disk) c.loop-agent.list.items
      c.open_next.new.list.items c.loop-agent.invariant.low c.loop-agent.invariant.opens c.in-Ok.ensures.opens;
  low = omega arith;
}

pub returns-in-Err-clause-refused : goal.returns-in-Err-clause-refused
returns-in-Err-clause-refused g c =
    agent_refused c.in-Err.error c.loop-agent.agent (g.D.Disk.view c.args.disk.now) (g.D.Disk.view c.loop-agent.disk) (g.D.Disk.view c.open_next.new.disk) c.loop-agent.list.items
    c.loop-agent.invariant.low c.loop-agent-test.true c.loop-agent.invariant.opens c.in-Err.ensures.refused

pub returns-clause-opens : goal.returns-clause-opens
returns-clause-opens g c =
    all_open c.loop-agent.agent (g.D.Disk.view c.args.disk.now) (g.D.Disk.view c.loop-agent.disk) c.loop-agent.list.items
    (omega (arith, c.loop-agent-test.false, c.loop-agent.auto.agent-end)) c.loop-agent.invariant.opens
