use Rattle.oc2_wire_site.specs.WireOf.{wire_of}
use Rattle.oc2_wire.proofs.LentWires.{keeps_on, says_lent}
use Rattle.oc2_wire.proofs.reply_wire.ReplyWireSite.say.Goals as goal

pub returns-clause-only : goal.returns-clause-only
returns-clause-only g c = says_lent c.args.self.now.wire.ghost_name (wire_of g.S.Disk.view g.K.Link.view c.args.self.now.lent.value) (wire_of g.S.Disk.view g.K.Link.view c.args.self.now.wire.now) (wire_of g.S.Disk.view g.K.Link.view c.say.new.self) c.args.self.now.put c.say.ensures.wire c.say.ensures.only

pub invariant_of-self : goal.invariant_of-self
invariant_of-self g c = record { keeps = keeps_on (wire_of g.S.Disk.view g.K.Link.view c.args.self.now.lent.value) (wire_of g.S.Disk.view g.K.Link.view c.args.self.now.wire.now) (wire_of g.S.Disk.view g.K.Link.view c.say.new.self) c.args.self.now.put c.args.self.now.keeps c.say.ensures.wire.lines c.say.ensures.only.puts c.say.ensures.only.mishaps }
