-- The lines as they were, and the new one.
use Rattle.std.proofs.Common.{arith, vec_len}
use Rattle.cacao_site_log.proofs.EntryLemmas.{calls_of-more}
use Rattle.cacao_site_log.proofs.LineLemmas.{lines_of-push}
use Rattle.cacao_site_log.proofs.call_log.CallLog.say.Goals as goal

pub returns-clause-lines : goal.returns-clause-lines
returns-clause-lines c =
    rw (c.extend_in_room.ensures.items, c.push_reserved.ensures.items, ← c.self.view_is)
    (lines_of-push c.self.inside.bytes.items c.args.bytes.now (vec_len c.self.inside.bytes) c.self.inside.lines.items (record { beat = c.args.beat; start = c.len-start.result; end = c.len-end.result }) (omega arith) c.self.invariant.in_bytes (omega arith) (omega arith))

pub returns-clause-calls : goal.returns-clause-calls
returns-clause-calls c =
    rw (c.extend_in_room.ensures.items, ← c.self.view_is)
    (calls_of-more c.self.inside.bytes.items c.args.bytes.now (vec_len c.self.inside.bytes) c.self.inside.entries.items (omega arith) c.self.invariant.fits)
