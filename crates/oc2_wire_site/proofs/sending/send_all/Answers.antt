use Rattle.oc2_wire_site.proofs.ByteLemmas.{sent_more, sent_none}
use Rattle.oc2_wire_site.proofs.sending.send_all.Goals as goal

pub loop-from-init : goal.loop-from-init
loop-from-init g c = sent_none c.args.bytes.now (g.K.Link.view c.args.link.now)

pub loop-from-preserved : goal.loop-from-preserved
loop-from-preserved g c =
    sent_more c.args.bytes.now c.loop-from.from c.in_ok-count.count (g.K.Link.view c.args.link.now) (g.K.Link.view c.loop-from.link) (g.K.Link.view c.send.new.self)
    c.loop-from.invariant c.in_ok-count.ensures.count c.in_ok-count.ensures.sends c.in_ok-count.ensures.faultless
