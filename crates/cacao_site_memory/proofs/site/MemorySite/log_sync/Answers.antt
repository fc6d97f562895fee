-- The record with the sync.
use Rattle.std.proofs.Common.{arith}
use Rattle.cacao_site_log.specs.Replay.{flushed}
use Rattle.cacao_site_log.proofs.Logged.{logged_call, on-flushed, flushed_follows, flushed_reads, flushed_durable}
use Rattle.cacao_site_memory.proofs.site.MemorySite.log_sync.Goals as goal

pub returns-clause-call : goal.returns-clause-call
returns-clause-call c =
    logged_call _ _ _ (flushed c.args.file) _ _ _ _ _ _ _ _ _ c.sync.ensures.calls (omega arith) (omega arith) c.saturating_add-self.ensures c.args.file 0 (on-flushed c.args.file) (omega arith) c.saturating_add-self-2.ensures (omega arith) (omega arith) (omega arith)

pub returns-clause-follows : goal.returns-clause-follows
returns-clause-follows c =
    flushed_follows c.args.self.now.starts c.args.self.now.log.calls c.sync.new.self.calls c.args.self.now.first_beat c.args.self.now.calls c.saturating_add-self.result c.args.self.now.disk_calls c.saturating_add-self-2.result c.args.self.now.written c.args.self.now.written c.args.self.now.faults c.args.self.now.faults
    (omega arith) (omega arith) c.saturating_add-self.ensures c.args.file c.sync.ensures.calls

pub returns-clause-reads : goal.returns-clause-reads
returns-clause-reads c =
    flushed_reads c.args.self.now.starts c.args.self.now.log.calls c.sync.new.self.calls c.args.self.now.first_beat c.args.self.now.calls c.saturating_add-self.result c.args.self.now.disk_calls c.saturating_add-self-2.result c.args.self.now.written c.args.self.now.written c.args.self.now.faults c.args.self.now.faults
    (omega arith) (omega arith) c.saturating_add-self.ensures c.args.file c.sync.ensures.calls

pub returns-clause-durable : goal.returns-clause-durable
returns-clause-durable c =
    flushed_durable c.args.self.now.starts c.args.self.now.log.calls c.sync.new.self.calls c.args.self.now.first_beat c.args.self.now.calls c.saturating_add-self.result c.args.self.now.disk_calls c.saturating_add-self-2.result c.args.self.now.written c.args.self.now.written c.args.self.now.faults c.args.self.now.faults
    (omega arith) (omega arith) c.saturating_add-self.ensures c.args.file c.sync.ensures.calls
