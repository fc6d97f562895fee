use Rattle.std.proofs.Common.{◌+◌, ◌-◌, ◌≤◌, subst}
use Rattle.oc2_wire_site.specs.LineLinks.{taken_of}
use Rattle.oc2_wire_site.specs.WireOf.{wire_of}
use Rattle.oc2_wire.specs.Answering.{most_idle}
use Rattle.oc2_wire.proofs.Taking.{Took, took_as}
use Rattle.oc2_wire.proofs.commands.take_command.Goals as goal

pub returns-then-is_flooded : goal.returns-then-is_flooded
returns-then-is_flooded g c =
    let old = wire_of g.S.Disk.view g.K.Link.view c.args.wire.now in
    let new = wire_of g.S.Disk.view g.K.Link.view c.take-taken.new.self in
    let took : Took c.take-taken.result old new = record {
      sound = c.is_sound.ensures;
      only = c.take-taken.ensures.only;
      taken = c.take-taken.ensures.taken;
      memory = c.take-taken.ensures.memory;
      line = c.take-taken.ensures.line;
    } in
    record {
      taken = taken_of c.take-taken.result;
      takes = took_as c.args.first old new c.requires c.take-taken.result took;
      many = subst (λ n. most_idle ≤ n - c.args.first + c.args.repeated) c.passed.ensures (c.is_flooded.ensures.0 c.if-is_flooded.true);
    }
