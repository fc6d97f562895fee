-- The record with the write that failed.
use Rattle.std.proofs.Common.{arith}
use Rattle.cacao_site_log.specs.Replay.{tried}
use Rattle.cacao_site_log.proofs.Logged.{logged_call, on-tried, tried_follows, tried_spreads, tried_reads}
use Rattle.cacao_site_memory.proofs.site.MemorySite.log_failed_write.Goals as goal

pub returns-clause-call : goal.returns-clause-call
returns-clause-call c =
    logged_call _ _ _ (tried c.args.file c.args.at c.args.size) _ _ _ _ _ _ _ _ _ c.try_write.ensures.calls (omega arith) (omega arith) c.saturating_add-self.ensures c.args.file c.args.size (on-tried c.args.file c.args.at c.args.size) (omega arith) c.saturating_add-self-2.ensures (omega arith) c.saturating_add-self-3.ensures (omega arith)

pub returns-clause-follows : goal.returns-clause-follows
returns-clause-follows c =
    tried_follows c.args.self.now.starts c.args.self.now.log.calls c.try_write.new.self.calls c.args.self.now.first_beat c.args.self.now.calls c.saturating_add-self.result c.args.self.now.disk_calls c.saturating_add-self-2.result c.args.self.now.written c.saturating_add-self-3.result c.args.self.now.faults c.saturating_add-self-4.result
    (omega arith) (omega arith) c.saturating_add-self.ensures c.args.file c.args.at c.args.size c.try_write.ensures.calls

pub returns-clause-spreads : goal.returns-clause-spreads
returns-clause-spreads c =
    tried_spreads c.args.self.now.starts c.args.self.now.log.calls c.try_write.new.self.calls c.args.self.now.first_beat c.args.self.now.calls c.saturating_add-self.result c.args.self.now.disk_calls c.saturating_add-self-2.result c.args.self.now.written c.saturating_add-self-3.result c.args.self.now.faults c.saturating_add-self-4.result
    (omega arith) (omega arith) c.saturating_add-self.ensures c.args.file c.args.at c.args.size c.try_write.ensures.calls

pub returns-clause-reads : goal.returns-clause-reads
returns-clause-reads c =
    tried_reads c.args.self.now.starts c.args.self.now.log.calls c.try_write.new.self.calls c.args.self.now.first_beat c.args.self.now.calls c.saturating_add-self.result c.args.self.now.disk_calls c.saturating_add-self-2.result c.args.self.now.written c.saturating_add-self-3.result c.args.self.now.faults c.saturating_add-self-4.result
    (omega arith) (omega arith) c.saturating_add-self.ensures c.args.file c.args.at c.args.size c.try_write.ensures.calls
