use Rattle.flow_world_parts.proofs.OpenFiles.{journal_open}
use Rattle.flow_fleet.proofs.Unnamed.{refused_journal}
use Rattle.flow_fleet.proofs.seen.open_journal.Goals as goal

pub returns-in-Err-clause-refused : goal.returns-in-Err-clause-refused
returns-in-Err-clause-refused g c =
    refused_journal c.args.setup c.args.run (g.D.Disk.view c.args.disk.now) (g.D.Disk.view c.open_on.new.disk) c.of_opening.result c.in-Err.error
    (record { only = c.open_on.ensures.only; calls = c.open_on.ensures.calls; written = c.open_on.ensures.bytes }) c.in-Err.ensures.refused c.of_opening.ensures
    (λ other. c.in-Err.ensures.steady (λ e. other (cc))) (λ other. c.in-Err.ensures.reads (λ e. other (cc)))

pub returns-clause-opens : goal.returns-clause-opens
returns-clause-opens g c =
    journal_open c.args.setup c.args.run (g.D.Disk.view c.args.disk.now) (g.D.Disk.view c.open_on.new.disk) c.in-Ok.engine
    (record { only = c.open_on.ensures.only; calls = c.open_on.ensures.calls; written = c.open_on.ensures.bytes }) (c.in-Ok.ensures.steady (λ e. cc)) (c.in-Ok.ensures.reads (λ e. cc)) c.in-Ok.ensures.ready c.law.ensures.history c.law.ensures.put
    c.in-Ok.ensures.whole c.in-Ok.ensures.given c.in-Ok.ensures.run c.in-Ok.ensures.no_puts c.in-Ok.ensures.durable c.in-Ok.ensures.stands c.in-Ok.ensures.prepared
