-- The calls as they were, and the write.
use Rattle.std.proofs.Common.{arith, vec_len}
use Rattle.cacao_site_log.proofs.EntryLemmas.{calls_of-write}
use Rattle.cacao_site_log.proofs.LineLemmas.{lines_of-more}
use Rattle.cacao_site_log.proofs.call_log.CallLog.write.Goals as goal

pub returns-clause-calls : goal.returns-clause-calls
returns-clause-calls c =
    rw (c.extend_in_room.ensures.items, c.push_reserved.ensures.items, ← c.self.view_is)
    (calls_of-write c.self.inside.bytes.items c.args.bytes.now (vec_len c.self.inside.bytes) c.self.inside.entries.items c.args.file c.args.at c.len-start.result c.len-end.result (omega arith) c.self.invariant.fits (omega arith) (omega arith))

pub returns-clause-lines : goal.returns-clause-lines
returns-clause-lines c =
    rw (c.extend_in_room.ensures.items, ← c.self.view_is)
    (lines_of-more c.self.inside.bytes.items c.args.bytes.now (vec_len c.self.inside.bytes) c.self.inside.lines.items (omega arith) c.self.invariant.in_bytes)
