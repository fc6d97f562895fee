use Rattle.std.proofs.Common.{refl}
use Rattle.flow_core.proofs.HeldLemmas.{idle_sound}
use Rattle.flow_core.proofs.flow.Flow.idle.Goals as goal

pub invariant_of-result : goal.invariant_of-result
invariant_of-result c = idle_sound _ refl refl refl c.new.ensures.lists (c.new.ensures.tables c.args.setup)
