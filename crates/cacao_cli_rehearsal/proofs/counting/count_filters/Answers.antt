use Rattle.std.proofs.Common.{◌∙◌, ℕ, arith, length}
use Rattle.slpf_rules_acts.specs.Acts.{table_of}
use Rattle.slpf_actuator.specs.ActuatorView.{ActuatorView}
use Rattle.cacao_cli_rehearsal.proofs.Held.{holds_next, keeps_then, more_counted}
use Rattle.cacao_cli_rehearsal.proofs.Opened.{calls_next, first_stays}
use Rattle.cacao_cli_rehearsal.proofs.counting.count_filters.Goals as goal

abbrev acts_of : ActuatorView → ℕ
acts_of v = length v.acts

abbrev rules_of : ActuatorView → ℕ
rules_of v = length (table_of v.acts)

pub count_filter-requires-clause-filter : goal.count_filter-requires-clause-filter
count_filter-requires-clause-filter g c =
    holds_next c.loop-agent.agent (g.D.Disk.view c.args.disk.now) (g.D.Disk.view c.loop-agent.disk) c.loop-agent.invariant.low (omega (arith, c.loop-agent-test.true))
    c.loop-agent.invariant.keeps c.requires.filters

pub loop-agent-preserved : goal.loop-agent-preserved
loop-agent-preserved g c = record {
  low = omega arith;
  keeps = keeps_then (g.D.Disk.view c.args.disk.now).disk (g.D.Disk.view c.loop-agent.disk).disk (g.D.Disk.view c.count_filter.new.disk).disk c.loop-agent.invariant.keeps c.in-Ok.ensures.keeps;
  calls = calls_next c.loop-agent.agent (g.D.Disk.view c.args.disk.now).disk (g.D.Disk.view c.loop-agent.disk).disk (g.D.Disk.view c.count_filter.new.disk).disk c.loop-agent.invariant.low c.loop-agent.invariant.calls c.count_filter.ensures.calls c.count_filter.ensures.others;
  says = c.count_filter.ensures.says ∙ c.loop-agent.invariant.says;
  first = first_stays c.loop-agent.agent (g.D.Disk.view c.args.disk.now).disk (g.D.Disk.view c.loop-agent.disk).disk (g.D.Disk.view c.count_filter.new.disk).disk c.loop-agent.invariant.low c.loop-agent.invariant.first c.count_filter.ensures.others;
  acts = λ filters are.
      more_counted acts_of c.loop-agent.agent c.loop-agent.all.acts c.in-Ok.one.acts (g.D.Disk.view c.args.disk.now) (g.D.Disk.view c.loop-agent.disk) filters c.loop-agent.invariant.low
      (omega (arith, c.loop-agent-test.true)) c.loop-agent.invariant.keeps are c.in-Ok.ensures.count.acts (c.loop-agent.invariant.acts filters are);
  rules = λ filters are.
      more_counted rules_of c.loop-agent.agent c.loop-agent.all.rules c.in-Ok.one.rules (g.D.Disk.view c.args.disk.now) (g.D.Disk.view c.loop-agent.disk) filters c.loop-agent.invariant.low
      (omega (arith, c.loop-agent-test.true)) c.loop-agent.invariant.keeps are c.in-Ok.ensures.count.rules (c.loop-agent.invariant.rules filters are);
  few_acts = let few = c.in-Ok.ensures.count.few_acts in let before = c.loop-agent.invariant.few_acts in let low = c.loop-agent.invariant.low in omega (arith, few, before, low);
  few_rules = let few = c.in-Ok.ensures.count.few_rules in let before = c.loop-agent.invariant.few_rules in let low = c.loop-agent.invariant.low in omega (arith, few, before, low);
}
