use Rattle.std.proofs.Common.{refl}
use Rattle.flow_core.proofs.HeldLemmas.{reserved_kept}
use Rattle.flow_core.proofs.flow.Flow.take_spare.Goals as goal

pub invariant_of-self : goal.invariant_of-self
invariant_of-self c = reserved_kept c.self.inside _ c.self.invariant refl refl refl refl refl refl c.self.invariant.tables (λ k room. room)
