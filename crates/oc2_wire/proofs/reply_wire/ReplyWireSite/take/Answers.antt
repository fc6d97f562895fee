use Rattle.oc2_wire_site.specs.WireOf.{wire_of}
use Rattle.oc2_wire.specs.ReplyWires.{lent_wire}
use Rattle.oc2_wire.proofs.Retell.{takes_none_at_all}
use Rattle.oc2_wire.proofs.reply_wire.ReplyWireSite.take.Goals as goal

pub returns-clause-only : goal.returns-clause-only
returns-clause-only g c = takes_none_at_all (lent_wire c.args.self.now.wire.ghost_name (wire_of g.S.Disk.view g.K.Link.view c.args.self.now.lent.value) c.args.self.now.put (wire_of g.S.Disk.view g.K.Link.view c.args.self.now.wire.now))
