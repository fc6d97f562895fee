-- The record with the write.
use Rattle.std.proofs.Common.{ℕ, List, length, ap, arith}
use Rattle.cacao_site_log.specs.Replay.{wrote}
use Rattle.cacao_site_memory.proofs.KeptLemmas.{kept-wrote}
use Rattle.cacao_site_memory.proofs.SiteLemmas.{in-time-later}
use Rattle.cacao_site_log.proofs.Logged.{logged_call, on-wrote, wrote_follows, wrote_spreads, wrote_reads}
use Rattle.cacao_site_memory.proofs.site.MemorySite.log_write.Goals as goal

pub returns-clause-call : goal.returns-clause-call
returns-clause-call c =
    logged_call _ _ _ (wrote c.args.file c.args.at c.args.bytes.now) _ _ _ _ _ _ _ _ _ c.write.ensures.calls (omega arith) (omega arith) c.saturating_add-self.ensures c.args.file _ (on-wrote c.args.file c.args.at c.args.bytes.now) (omega arith) c.saturating_add-self-2.ensures (omega arith) c.saturating_add-self-3.ensures (omega arith)

pub returns-clause-follows : goal.returns-clause-follows
returns-clause-follows c =
    wrote_follows c.args.self.now.starts c.args.self.now.log.calls c.write.new.self.calls c.args.self.now.first_beat c.args.self.now.calls c.saturating_add-self.result c.args.self.now.disk_calls c.saturating_add-self-2.result c.args.self.now.written c.saturating_add-self-3.result c.args.self.now.faults c.args.self.now.faults
    (omega arith) (omega arith) c.saturating_add-self.ensures c.args.file c.args.at c.args.bytes.now c.write.ensures.calls

pub returns-clause-spreads : goal.returns-clause-spreads
returns-clause-spreads c =
    wrote_spreads c.args.self.now.starts c.args.self.now.log.calls c.write.new.self.calls c.args.self.now.first_beat c.args.self.now.calls c.saturating_add-self.result c.args.self.now.disk_calls c.saturating_add-self-2.result c.args.self.now.written c.saturating_add-self-3.result c.args.self.now.faults c.args.self.now.faults
    (omega arith) (omega arith) c.saturating_add-self.ensures c.args.file c.args.at c.args.bytes.now c.write.ensures.calls

pub returns-clause-written : goal.returns-clause-written
returns-clause-written c =
    wrote_reads c.args.self.now.starts c.args.self.now.log.calls c.write.new.self.calls c.args.self.now.first_beat c.args.self.now.calls c.saturating_add-self.result c.args.self.now.disk_calls c.saturating_add-self-2.result c.args.self.now.written c.saturating_add-self-3.result c.args.self.now.faults c.args.self.now.faults
    (omega arith) (omega arith) c.saturating_add-self.ensures c.args.file c.args.at c.args.bytes.now c.write.ensures.calls

pub invariant_of-self-clause-are_kept : goal.invariant_of-self-clause-are_kept
invariant_of-self-clause-are_kept c =
    kept-wrote c.args.self.now.starts c.args.self.now.log.calls c.write.new.self.calls c.args.file c.args.at c.args.bytes.now c.args.self.now.kept c.write-2.new.self c.write.ensures.calls c.write-2.ensures.written c.write-2.ensures.others c.args.self.now.are_kept

pub invariant_of-self-clause-line_most : goal.invariant_of-self-clause-line_most
invariant_of-self-clause-line_most c = omega (arith, ap (λ (l : List (ℕ × List ℕ)). length l) c.write.ensures.lines)

pub invariant_of-self-clause-said_in_time : goal.invariant_of-self-clause-said_in_time
invariant_of-self-clause-said_in_time c = in-time-later _ _ c.args.self.now.log.lines _ (omega arith) c.write.ensures.lines c.args.self.now.said_in_time
