-- The record with a call that changed no file.
use Rattle.std.proofs.Common.{arith, refl}
use Rattle.cacao_site_log.specs.Replay.{looked}
use Rattle.cacao_site_log.proofs.Logged.{logged_call, logged_stays}
use Rattle.cacao_site_memory.proofs.site.MemorySite.log_look.Goals as goal

pub returns-clause-call : goal.returns-clause-call
returns-clause-call c = λ file.
    logged_call _ _ _ looked _ _ _ _ _ _ _ _ _ c.look.ensures.calls (omega arith) (omega arith) c.saturating_add-self.ensures file 0 (λ other ne state. refl) (omega arith) c.saturating_add-self-2.ensures (omega arith) (omega arith) c.faults_after-self.ensures.up

pub returns-clause-stays : goal.returns-clause-stays
returns-clause-stays c = λ file.
    logged_stays c.args.self.now.starts c.args.self.now.log.calls c.look.new.self.calls looked c.args.self.now.first_beat c.args.self.now.calls c.saturating_add-self.result c.args.self.now.disk_calls c.saturating_add-self-2.result c.args.self.now.written c.args.self.now.written c.args.self.now.faults c.faults_after-self.result
    c.look.ensures.calls (omega arith) (omega arith) c.saturating_add-self.ensures file (λ state. refl)
