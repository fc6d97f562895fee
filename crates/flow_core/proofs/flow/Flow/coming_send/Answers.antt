use Rattle.flow_core.proofs.HeldLemmas.{is_well}
use Rattle.flow_core.proofs.flow.Flow.coming_send.Goals as goal

pub send-requires-clause-well : goal.send-requires-clause-well
send-requires-clause-well c = is_well c.self.inside c.self.invariant c.if-self-eq0.false c.setup_law.ensures.runnable c.if-not-has_numbers.ensures
