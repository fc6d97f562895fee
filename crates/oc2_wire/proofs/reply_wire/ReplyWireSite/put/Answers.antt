use Rattle.std.proofs.Common.{refl, arith}
use Rattle.oc2_wire_site.specs.WireOf.{wire_of}
use Rattle.oc2_wire.proofs.LentWires.{keeps_put, puts_lent}
use Rattle.oc2_wire.proofs.reply_wire.ReplyWireSite.put.Goals as goal

pub returns : goal.returns
returns g c =
    puts_lent c.args.self.now.wire.ghost_name (wire_of g.S.Disk.view g.K.Link.view c.args.self.now.lent.value) (wire_of g.S.Disk.view g.K.Link.view c.args.self.now.wire.now) (wire_of g.S.Disk.view g.K.Link.view c.put.new.self) c.args.self.now.put c.saturating_add-self.result c.args.parcel c.saturating_add-self.ensures (omega arith) c.put.ensures.line c.put.ensures.puts

pub invariant_of-self : goal.invariant_of-self
invariant_of-self g c = record { keeps = keeps_put (wire_of g.S.Disk.view g.K.Link.view c.args.self.now.lent.value) (wire_of g.S.Disk.view g.K.Link.view c.args.self.now.wire.now) (wire_of g.S.Disk.view g.K.Link.view c.put.new.self) c.args.parcel c.args.self.now.put c.saturating_add-self.result c.saturating_add-self.ensures c.put.ensures.puts refl c.args.self.now.keeps }
