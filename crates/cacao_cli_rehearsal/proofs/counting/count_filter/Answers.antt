use Rattle.std.proofs.Common.{◌∙◌, ap, arith}
use Rattle.cacao_site.specs.View.{CountsView}
use Rattle.std.specs.Prelude.{Err, length}
use Rattle.slpf_rules_acts.specs.Acts.{table_of}
use Rattle.cacao_cli_rehearsal.proofs.Held.{acts_read, filter_stands, keeps_only}
use Rattle.cacao_cli_rehearsal.proofs.counting.count_filter.Goals as goal

pub unreachable-requires : goal.unreachable-requires
unreachable-requires g c =
    filter_stands c.args.agent (g.D.Disk.view c.args.disk.now) (g.D.Disk.view c.open_on.new.disk) c.in-Err-Damaged.field-0-0
    (keeps_only c.args.agent (g.D.Disk.view c.args.disk.now) (g.D.Disk.view c.open_on.new.disk) c.open_on.ensures.only)
    (g.met.D.Disk.sound c.open_on.new.disk) c.requires.told c.requires.filter
    (c.open_on.ensures.damaged c.in-Err-Damaged.field-0-0 (c.in-Err-Damaged.is ∙ ap (λ e. Err e) c.in-Err-Damaged.field-0-is) c.requires.told)

pub unreachable-requires-in-Err-Full : goal.unreachable-requires-in-Err-Full
unreachable-requires-in-Err-Full g c = (c.open_on.ensures.no_other c.in-Err-Full.field-0-0).1 (c.in-Err-Full.is ∙ ap (λ e. Err e) c.in-Err-Full.field-0-is)

pub unreachable-requires-in-Err-Broken : goal.unreachable-requires-in-Err-Broken
unreachable-requires-in-Err-Broken g c = (c.open_on.ensures.no_other 0).0 (c.in-Err-Broken.is ∙ ap (λ e. Err e) c.in-Err-Broken.field-0-is)

pub returns-in-Ok-clause-count : goal.returns-in-Ok-clause-count
returns-in-Ok-clause-count g c = record {
  acts = λ v is. c.count.ensures.value ∙ ap (λ acts. length acts) (acts_read c.args.agent (g.D.Disk.view c.args.disk.now) (g.D.Disk.view c.open_on.new.disk) v c.in-Ok.filter
      (keeps_only c.args.agent (g.D.Disk.view c.args.disk.now) (g.D.Disk.view c.open_on.new.disk) c.open_on.ensures.only) (g.met.D.Disk.sound c.open_on.new.disk) c.requires.told is
      c.in-Ok.ensures.ready.history (c.in-Ok.ensures.stands c.requires.told));
  rules = λ v is. c.len.ensures.value ∙ ap (λ rules. length rules) (c.rules.ensures.value ∙ c.table.ensures ∙ ap (λ acts. table_of acts)
      (acts_read c.args.agent (g.D.Disk.view c.args.disk.now) (g.D.Disk.view c.open_on.new.disk) v c.in-Ok.filter
      (keeps_only c.args.agent (g.D.Disk.view c.args.disk.now) (g.D.Disk.view c.open_on.new.disk) c.open_on.ensures.only) (g.met.D.Disk.sound c.open_on.new.disk) c.requires.told is
      c.in-Ok.ensures.ready.history (c.in-Ok.ensures.stands c.requires.told)));
  few_acts = omega (arith, c.count.ensures.value, c.count.ensures.history.few);
  few_rules = let many = c.len.ensures.value ∙ ap (λ rules. length rules) c.rules.ensures.value in omega (arith, many, c.rules.ensures.few);
}

pub returns-in-Ok-clause-keeps : goal.returns-in-Ok-clause-keeps
returns-in-Ok-clause-keeps g c = keeps_only c.args.agent (g.D.Disk.view c.args.disk.now) (g.D.Disk.view c.open_on.new.disk) c.open_on.ensures.only

pub returns-in-Err-Disk-clause-keeps : goal.returns-in-Err-Disk-clause-keeps
returns-in-Err-Disk-clause-keeps g c = keeps_only c.args.agent (g.D.Disk.view c.args.disk.now) (g.D.Disk.view c.open_on.new.disk) c.open_on.ensures.only

pub returns-in-Err-Memory-clause-keeps : goal.returns-in-Err-Memory-clause-keeps
returns-in-Err-Memory-clause-keeps g c = keeps_only c.args.agent (g.D.Disk.view c.args.disk.now) (g.D.Disk.view c.open_on.new.disk) c.open_on.ensures.only

pub returns-in-Ok-clause-says : goal.returns-in-Ok-clause-says
returns-in-Ok-clause-says g c = ap (λ (k : CountsView). k.says) c.open_on.ensures.only.rest.counts

pub returns-in-Err-Disk-clause-says : goal.returns-in-Err-Disk-clause-says
returns-in-Err-Disk-clause-says g c = ap (λ (k : CountsView). k.says) c.open_on.ensures.only.rest.counts

pub returns-in-Err-Memory-clause-says : goal.returns-in-Err-Memory-clause-says
returns-in-Err-Memory-clause-says g c = ap (λ (k : CountsView). k.says) c.open_on.ensures.only.rest.counts
