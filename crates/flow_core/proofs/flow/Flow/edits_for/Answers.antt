use Rattle.flow_core.proofs.HeldLemmas.{is_well}
use Rattle.flow_core.proofs.flow.Flow.edits_for.Goals as goal

pub change-requires : goal.change-requires
change-requires c = record { well = is_well c.self.inside c.self.invariant c.if-self-eq0.false c.setup_law.ensures.runnable c.if-not-has_numbers.ensures }
