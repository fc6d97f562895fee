use Rattle.cacao_cli_rehearsal.proofs.Held.{filters_kept, keeps_then, told_kept}
use Rattle.cacao_cli_rehearsal.proofs.counting.count.Goals as goal

pub count_filters-requires-clause-told : goal.count_filters-requires-clause-told
count_filters-requires-clause-told g c = told_kept (g.D.Disk.view c.args.disk.now).disk (g.D.Disk.view c.count_records.new.disk).disk c.in-Ok.ensures.keeps c.requires.told

pub count_filters-requires-clause-filters : goal.count_filters-requires-clause-filters
count_filters-requires-clause-filters g c = record {
  filters = c.requires.filters.filters;
  are = filters_kept (g.D.Disk.view c.args.disk.now) (g.D.Disk.view c.count_records.new.disk) c.requires.filters.filters c.in-Ok.ensures.keeps c.requires.filters.are;
}

pub returns-clause-counts : goal.returns-clause-counts
returns-clause-counts g c = record {
  records = c.in-Ok.ensures.records;
  acts = λ filters are. c.in-Ok-count_filters.ensures.count.acts filters (filters_kept (g.D.Disk.view c.args.disk.now) (g.D.Disk.view c.count_records.new.disk) filters c.in-Ok.ensures.keeps are);
  rules = λ filters are. c.in-Ok-count_filters.ensures.count.rules filters (filters_kept (g.D.Disk.view c.args.disk.now) (g.D.Disk.view c.count_records.new.disk) filters c.in-Ok.ensures.keeps are);
}

pub returns-clause-keeps : goal.returns-clause-keeps
returns-clause-keeps g c =
    keeps_then (g.D.Disk.view c.args.disk.now).disk (g.D.Disk.view c.count_records.new.disk).disk (g.D.Disk.view c.count_filters.new.disk).disk c.in-Ok.ensures.keeps c.count_filters.ensures.keeps

pub returns-in-Err-count_filters-clause-keeps : goal.returns-in-Err-count_filters-clause-keeps
returns-in-Err-count_filters-clause-keeps g c =
    keeps_then (g.D.Disk.view c.args.disk.now).disk (g.D.Disk.view c.count_records.new.disk).disk (g.D.Disk.view c.count_filters.new.disk).disk c.in-Ok.ensures.keeps c.count_filters.ensures.keeps
