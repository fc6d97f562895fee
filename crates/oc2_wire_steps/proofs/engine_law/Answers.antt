use Rattle.oc2_wire_steps.proofs.Kept.{begins_kept, steps_keep_engine}
use Rattle.oc2_wire_steps.proofs.Openings.{opening_is_kept}
use Rattle.oc2_wire_steps.proofs.engine_law.Goals as goal

pub returns : goal.returns
returns c = record {
  steps = steps_keep_engine;
  opening = opening_is_kept c.engine_laws.ensures.shrunk;
  begins = begins_kept c.engine_laws.ensures.shrunk;
}
