use Rattle.flow_world_parts.proofs.OpenFiles.{journal_open, journal_refused, second_refused}
use Rattle.flow_world_parts.proofs.opening.open_files.Goals as goal

pub returns-in-Err-clause-refused : goal.returns-in-Err-clause-refused
returns-in-Err-clause-refused g c =
    journal_refused c.args.setup c.args.run (g.S.Disk.view c.args.site.now) (g.S.Disk.view c.open_on.new.disk) c.of_opening.result c.in-Err.error
    (record { only = c.open_on.ensures.only; calls = c.open_on.ensures.calls; written = c.open_on.ensures.bytes }) c.in-Err.ensures.refused c.of_opening.ensures
    (λ other. c.in-Err.ensures.steady (λ e. other (cc))) (λ other. c.in-Err.ensures.reads (λ e. other (cc)))

pub returns-in-Err-open_on-clause-refused : goal.returns-in-Err-open_on-clause-refused
returns-in-Err-open_on-clause-refused g c =
    second_refused c.in-Err-open_on.error c.args.setup c.args.run (g.S.Disk.view c.args.site.now) (g.S.Disk.view c.open_on.new.disk) (g.S.Disk.view c.open_on-2.new.disk) c.in-Ok.engine
    (journal_open c.args.setup c.args.run (g.S.Disk.view c.args.site.now) (g.S.Disk.view c.open_on.new.disk) c.in-Ok.engine
    (record { only = c.open_on.ensures.only; calls = c.open_on.ensures.calls; written = c.open_on.ensures.bytes }) (c.in-Ok.ensures.steady (λ e. cc)) (c.in-Ok.ensures.reads (λ e. cc)) c.in-Ok.ensures.ready c.law.ensures.history c.law.ensures.put
    c.in-Ok.ensures.whole c.in-Ok.ensures.given c.in-Ok.ensures.run c.in-Ok.ensures.no_puts c.in-Ok.ensures.durable c.in-Ok.ensures.stands c.in-Ok.ensures.prepared)
    c.in-Err-open_on.ensures.refused

pub returns-in-Ok-open_on-clause-opens : goal.returns-in-Ok-open_on-clause-opens
returns-in-Ok-open_on-clause-opens g c = record {
  middle = g.S.Disk.view c.open_on.new.disk;
  journal = journal_open c.args.setup c.args.run (g.S.Disk.view c.args.site.now) (g.S.Disk.view c.open_on.new.disk) c.in-Ok.engine
      (record { only = c.open_on.ensures.only; calls = c.open_on.ensures.calls; written = c.open_on.ensures.bytes }) (c.in-Ok.ensures.steady (λ e. cc)) (c.in-Ok.ensures.reads (λ e. cc)) c.in-Ok.ensures.ready c.law.ensures.history c.law.ensures.put
      c.in-Ok.ensures.whole c.in-Ok.ensures.given c.in-Ok.ensures.run c.in-Ok.ensures.no_puts c.in-Ok.ensures.durable c.in-Ok.ensures.stands c.in-Ok.ensures.prepared;
  others = c.in-Ok-open_on.ensures.opens;
}
