use Rattle.oc2_wire_site.specs.WireOf.{wire_of}
use Rattle.oc2_wire.proofs.LentWires.{keeps_on, reaches_lent}
use Rattle.oc2_wire.proofs.reply_wire.ReplyWireSite.reach.Goals as goal

pub returns : goal.returns
returns g c = reaches_lent c.args.self.now.wire.ghost_name (wire_of g.S.Disk.view g.K.Link.view c.args.self.now.lent.value) (wire_of g.S.Disk.view g.K.Link.view c.args.self.now.wire.now) (wire_of g.S.Disk.view g.K.Link.view c.reach.new.self) c.args.self.now.put c.args.moment c.reach.result c.reach.ensures.wire c.reach.ensures.reaches

pub invariant_of-self : goal.invariant_of-self
invariant_of-self g c = record { keeps = keeps_on (wire_of g.S.Disk.view g.K.Link.view c.args.self.now.lent.value) (wire_of g.S.Disk.view g.K.Link.view c.args.self.now.wire.now) (wire_of g.S.Disk.view g.K.Link.view c.reach.new.self) c.args.self.now.put c.args.self.now.keeps c.reach.ensures.wire.lines c.reach.ensures.reaches.puts c.reach.ensures.reaches.mishaps }
