use Rattle.std.proofs.Common.{◌∙◌, ap}
use Rattle.cacao_site.specs.View.{CountsView}
use Rattle.std.specs.Prelude.{Err}
use Rattle.cacao_cli_rehearsal.proofs.Held.{keeps_only, records_counted, run_stands}
use Rattle.cacao_cli_rehearsal.proofs.counting.count_records.Goals as goal

pub unreachable-requires : goal.unreachable-requires
unreachable-requires g c =
    run_stands (g.D.Disk.view c.args.disk.now) (g.D.Disk.view c.open_on.new.disk) c.in-Err-Damaged.field-0-0
    (keeps_only 0 (g.D.Disk.view c.args.disk.now) (g.D.Disk.view c.open_on.new.disk) (record { each = c.open_on.ensures.each_beat; others = c.open_on.ensures.others; rest = c.open_on.ensures.rest }))
    (g.met.D.Disk.sound c.open_on.new.disk) c.requires.told c.requires.run
    (c.open_on.ensures.damaged c.in-Err-Damaged.field-0-0 (c.in-Err-Damaged.is ∙ ap (λ e. Err e) c.in-Err-Damaged.field-0-is) c.requires.told)

pub unreachable-requires-in-Err-Full : goal.unreachable-requires-in-Err-Full
unreachable-requires-in-Err-Full g c = (c.open_on.ensures.no_other c.in-Err-Full.field-0-0).1 (c.in-Err-Full.is ∙ ap (λ e. Err e) c.in-Err-Full.field-0-is)

pub unreachable-requires-in-Err-Broken : goal.unreachable-requires-in-Err-Broken
unreachable-requires-in-Err-Broken g c = (c.open_on.ensures.no_other 0).0 (c.in-Err-Broken.is ∙ ap (λ e. Err e) c.in-Err-Broken.field-0-is)

pub returns-in-Ok-clause-records : goal.returns-in-Ok-clause-records
returns-in-Ok-clause-records g c =
    records_counted (g.D.Disk.view c.args.disk.now) (g.D.Disk.view c.open_on.new.disk) c.in-Ok.journal.items c.count.result
    (keeps_only 0 (g.D.Disk.view c.args.disk.now) (g.D.Disk.view c.open_on.new.disk) (record { each = c.open_on.ensures.each_beat; others = c.open_on.ensures.others; rest = c.open_on.ensures.rest }))
    (g.met.D.Disk.sound c.open_on.new.disk) c.requires.told (c.in-Ok.ensures.stands c.requires.told) c.count.ensures.value

pub returns-in-Ok-clause-keeps : goal.returns-in-Ok-clause-keeps
returns-in-Ok-clause-keeps g c =
    keeps_only 0 (g.D.Disk.view c.args.disk.now) (g.D.Disk.view c.open_on.new.disk) (record { each = c.open_on.ensures.each_beat; others = c.open_on.ensures.others; rest = c.open_on.ensures.rest })

pub returns-in-Err-Disk-clause-keeps : goal.returns-in-Err-Disk-clause-keeps
returns-in-Err-Disk-clause-keeps g c =
    keeps_only 0 (g.D.Disk.view c.args.disk.now) (g.D.Disk.view c.open_on.new.disk) (record { each = c.open_on.ensures.each_beat; others = c.open_on.ensures.others; rest = c.open_on.ensures.rest })

pub returns-in-Err-Memory-clause-keeps : goal.returns-in-Err-Memory-clause-keeps
returns-in-Err-Memory-clause-keeps g c =
    keeps_only 0 (g.D.Disk.view c.args.disk.now) (g.D.Disk.view c.open_on.new.disk) (record { each = c.open_on.ensures.each_beat; others = c.open_on.ensures.others; rest = c.open_on.ensures.rest })

pub returns-in-Ok-clause-says : goal.returns-in-Ok-clause-says
returns-in-Ok-clause-says g c = ap (λ (k : CountsView). k.says) c.open_on.ensures.rest.counts

pub returns-in-Err-Disk-clause-says : goal.returns-in-Err-Disk-clause-says
returns-in-Err-Disk-clause-says g c = ap (λ (k : CountsView). k.says) c.open_on.ensures.rest.counts

pub returns-in-Err-Memory-clause-says : goal.returns-in-Err-Memory-clause-says
returns-in-Err-Memory-clause-says g c = ap (λ (k : CountsView). k.says) c.open_on.ensures.rest.counts
