-- The record as it was.
use Rattle.std.proofs.Common.{arith, refl}
use Rattle.cacao_site_log.proofs.Logged.{refused_keeps}
use Rattle.cacao_site_memory.proofs.site.MemorySite.refuse_line.Goals as goal

pub returns-clause-keeps : goal.returns-clause-keeps
returns-clause-keeps c = refused_keeps _ _ _ _ _ _ _ _ _ _ _ (omega arith) (omega arith) c.saturating_add-self.ensures refl refl refl
