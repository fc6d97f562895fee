use Rattle.flow_core.proofs.HeldLemmas.{is_well}
use Rattle.flow_core.proofs.flow.Flow.is_long.Goals as goal

pub is_long-requires : goal.is_long-requires
is_long-requires c = is_well c.self.inside c.self.invariant c.if-self-eq0.false c.setup_law.ensures.runnable c.if-not-has_numbers.ensures
