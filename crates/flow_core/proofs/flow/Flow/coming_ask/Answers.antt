use Rattle.flow_core.proofs.HeldLemmas.{is_well}
use Rattle.flow_core.proofs.flow.Flow.coming_ask.Goals as goal

pub ask-requires-clause-well : goal.ask-requires-clause-well
ask-requires-clause-well c = is_well c.self.inside c.self.invariant c.if-self-eq0.false c.setup_law.ensures.runnable c.if-not-has_numbers.ensures
