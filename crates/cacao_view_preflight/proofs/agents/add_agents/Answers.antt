-- One name more was told, if it is to be, and is met.
use Rattle.std.proofs.Common.{◌∙◌, ◌++◌, ◌&&◌, ◌||◌, not, ap}
use Rattle.std.specs.Str.{bytes_eq}
use Rattle.cacao_view_preflight.specs.NameSets.{holds}
use Rattle.cacao_view_preflight.specs.Warnings.{Text, agent_line, warn_if}
use Rattle.cacao_view_preflight.proofs.AgentLemmas.{told-lines, told-met, told-more, told-none}
use Rattle.cacao_view_preflight.proofs.agents.add_agents.Goals as goal

pub loop-place-init : goal.loop-place-init
loop-place-init c = told-none c.args.bound.now c.args.met.now c.args.n c.args.names.now c.args.lines.now

pub loop-place-preserved : goal.loop-place-preserved
loop-place-preserved c =
    told-more c.args.bound.now c.args.met.now c.loop-place.met c.add_agent.new.met c.args.n c.args.names.now c.loop-place.place c.index-names-place.result c.args.lines.now c.loop-place.lines c.add_agent.new.lines
    c.loop-place-test.true c.index-names-place.is
    (c.in_ok-add_agent.ensures.lines ∙ ap (λ (t : Text). c.loop-place.lines ++ warn_if (not (holds c.args.bound.now t) && not (holds c.loop-place.met t)) (agent_line c.args.n t)) c.text.ensures)
    (λ other. c.in_ok-add_agent.ensures.met other ∙ ap (λ (t : Text). bytes_eq t other || holds c.loop-place.met other) c.text.ensures) c.loop-place.invariant

pub returns-clause-lines : goal.returns-clause-lines
returns-clause-lines c = told-lines c.args.bound.now c.args.met.now c.loop-place.met c.args.n c.args.names.now c.loop-place.place c.args.lines.now c.loop-place.lines c.loop-place-test.false c.loop-place.invariant

pub returns-clause-met : goal.returns-clause-met
returns-clause-met c = told-met c.args.bound.now c.args.met.now c.loop-place.met c.args.n c.args.names.now c.loop-place.place c.args.lines.now c.loop-place.lines c.loop-place-test.false c.loop-place.invariant
