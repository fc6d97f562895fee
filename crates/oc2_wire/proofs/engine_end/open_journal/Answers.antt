use Rattle.oc2_wire.proofs.Served.{opening_some, refuses_first}
use Rattle.flow_world_parts.proofs.OpenFiles.{journal_open}
use Rattle.oc2_wire.proofs.engine_end.open_journal.Goals as goal

pub of_world-requires : goal.of_world-requires
of_world-requires g c = opening_some c.in-Err.error c.of_opening.result c.of_opening.ensures

pub returns-in-Ok-clause-opens : goal.returns-in-Ok-clause-opens
returns-in-Ok-clause-opens g c =
    journal_open c.args.setup c.args.run (g.D.Disk.view c.args.disk.now) (g.D.Disk.view c.open_on.new.disk) c.in-Ok.engine
    (record { only = c.open_on.ensures.only; calls = c.open_on.ensures.calls; written = c.open_on.ensures.bytes }) (c.in-Ok.ensures.steady (λ e. cc)) (c.in-Ok.ensures.reads (λ e. cc)) c.in-Ok.ensures.ready c.law.ensures.history c.law.ensures.put
    c.in-Ok.ensures.whole c.in-Ok.ensures.given c.in-Ok.ensures.run c.in-Ok.ensures.no_puts c.in-Ok.ensures.durable c.in-Ok.ensures.stands c.in-Ok.ensures.prepared

pub returns-in-Err-clause-refused : goal.returns-in-Err-clause-refused
returns-in-Err-clause-refused g c =
    refuses_first c.args.setup c.args.run (g.D.Disk.view c.args.disk.now) (g.D.Disk.view c.open_on.new.disk) c.in-Err.error c.of_opening.result c.of_world.result
    (record { only = c.open_on.ensures.only; calls = c.open_on.ensures.calls; written = c.open_on.ensures.bytes }) c.in-Err.ensures.refused c.of_opening.ensures
    (λ other. c.in-Err.ensures.steady (λ e. other (cc))) (λ other. c.in-Err.ensures.reads (λ e. other (cc))) c.of_world.ensures
