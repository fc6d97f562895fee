use Rattle.oc2_wire_site.specs.WireOf.{wire_of}
use Rattle.oc2_wire.proofs.LentWires.{calls_lent, keeps_call, rest_lent}
use Rattle.oc2_wire.proofs.reply_wire.ReplyWireDisk.length.Goals as goal

pub returns-clause-call : goal.returns-clause-call
returns-clause-call g c =
    calls_lent c.args.self.now.wire.ghost_name (wire_of g.S.Disk.view g.K.Link.view c.args.self.now.lent.value) (wire_of g.S.Disk.view g.K.Link.view c.args.self.now.wire.now) (wire_of g.S.Disk.view g.K.Link.view c.length.new.self) c.args.self.now.put c.args.file 0 c.length.ensures.wire c.length.ensures.call

pub returns-clause-rest : goal.returns-clause-rest
returns-clause-rest g c = rest_lent c.args.self.now.wire.ghost_name (wire_of g.S.Disk.view g.K.Link.view c.args.self.now.lent.value) (wire_of g.S.Disk.view g.K.Link.view c.args.self.now.wire.now) (wire_of g.S.Disk.view g.K.Link.view c.length.new.self) c.args.self.now.put c.length.ensures.rest

pub invariant_of-self : goal.invariant_of-self
invariant_of-self g c = record { keeps = keeps_call (wire_of g.S.Disk.view g.K.Link.view c.args.self.now.lent.value) (wire_of g.S.Disk.view g.K.Link.view c.args.self.now.wire.now) (wire_of g.S.Disk.view g.K.Link.view c.length.new.self) c.args.self.now.put c.args.self.now.keeps c.length.ensures.wire c.length.ensures.rest }
