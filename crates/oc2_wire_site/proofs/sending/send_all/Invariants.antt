use Rattle.std.proofs.Common.{length, ◌-◌}
use Rattle.oc2_wire_site.proofs.ByteLemmas.{SentSoFar}
use Rattle.oc2_wire_site.proofs.sending.send_all.Given as goal

abbrev pub invariant-loop-from : goal.invariant-loop-from
invariant-loop-from g l = SentSoFar l.bytes l.from (g.K.Link.view l.fn.link) (g.K.Link.view l.link)

abbrev pub decreases-loop-from : goal.decreases-loop-from
decreases-loop-from g l = length l.bytes - l.from
