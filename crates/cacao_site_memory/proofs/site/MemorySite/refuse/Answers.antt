-- The record as it was.
use Rattle.std.proofs.Common.{arith}
use Rattle.cacao_site_log.proofs.Logged.{refused_call, refused_stays}
use Rattle.cacao_site_memory.proofs.site.MemorySite.refuse.Goals as goal

pub returns-clause-call : goal.returns-clause-call
returns-clause-call c = λ file.
    refused_call c.args.self.now.starts c.args.self.now.log.calls c.args.self.now.first_beat c.args.self.now.calls c.saturating_add-self.result c.args.self.now.disk_calls c.saturating_add-self-2.result c.args.self.now.written c.saturating_add-self-3.result c.args.self.now.faults c.faults_after-self.result
    (omega arith) (omega arith) c.saturating_add-self.ensures file c.args.size (omega arith) c.saturating_add-self-2.ensures (omega arith) c.saturating_add-self-3.ensures c.faults_after-self.ensures.up

pub returns-clause-stays : goal.returns-clause-stays
returns-clause-stays c = λ file.
    refused_stays c.args.self.now.starts c.args.self.now.log.calls c.args.self.now.first_beat c.args.self.now.calls c.saturating_add-self.result c.args.self.now.disk_calls c.saturating_add-self-2.result c.args.self.now.written c.saturating_add-self-3.result c.args.self.now.faults c.faults_after-self.result
    (omega arith) (omega arith) c.saturating_add-self.ensures file
