use Rattle.cacao_view_preflight.proofs.AgentLemmas.{Told}
use Rattle.cacao_view_preflight.proofs.agents.add_agents.Given as goal

abbrev pub invariant-loop-place : goal.invariant-loop-place
invariant-loop-place l = Told l.bound l.fn.met l.met l.n l.names l.place l.fn.lines l.lines
