-- The record with a call that changed no file.
use Rattle.std.proofs.Common.{arith, refl}
use Rattle.cacao_site_log.specs.Replay.{looked}
use Rattle.cacao_site_log.proofs.Logged.{logged_keeps}
use Rattle.cacao_site_memory.proofs.site.MemorySite.log_line.Goals as goal

pub returns-clause-keeps : goal.returns-clause-keeps
returns-clause-keeps c = logged_keeps _ _ _ looked _ _ _ _ _ _ _ _ _ c.look.ensures.calls (omega arith) (omega arith) c.saturating_add-self.ensures (λ file state. refl) refl refl refl
