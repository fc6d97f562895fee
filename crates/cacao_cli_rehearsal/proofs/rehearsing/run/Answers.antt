use Rattle.std.proofs.Common.{◌∙◌, sym}
use Rattle.cacao_site_memory.specs.MemorySite.{view_of}
use Rattle.cacao_cli_rehearsal.proofs.Running.{all_held, closes_otherwise, refuses, run_held, runs_well}
use Rattle.cacao_cli_rehearsal.proofs.rehearsing.run.Goals as goal

pub returns-in-Err-clause-err : goal.returns-in-Err-clause-err
returns-in-Err-clause-err c =
    refuses c.args.setup c.in-Err.error c.args.answers.now (view_of c.args.site.now.site) (view_of c.session.new.site.site) c.requires.none c.in-Err.ensures.refused

pub returns-then-not-is_well-clause-err : goal.returns-then-not-is_well-clause-err
returns-then-not-is_well-clause-err c =
    closes_otherwise c.args.setup c.in-Ok.close c.args.answers.now (view_of c.args.site.now.site) (view_of c.session.new.site.site) c.requires.none c.in-Ok.ensures.closed
    (sym c.is_well.ensures ∙ c.if-not-is_well.true)

pub count-requires-clause-run : goal.count-requires-clause-run
count-requires-clause-run c =
    run_held c.args.setup c.in-Ok.close c.args.answers.now (view_of c.args.site.now.site) (view_of c.session.new.site.site) c.requires.none c.in-Ok.ensures.closed
    (sym c.is_well.ensures ∙ c.if-not-is_well.false)

pub count-requires-clause-filters : goal.count-requires-clause-filters
count-requires-clause-filters c =
    all_held c.args.setup c.in-Ok.close c.args.answers.now (view_of c.args.site.now.site) (view_of c.session.new.site.site) c.requires.none c.in-Ok.ensures.closed
    (sym c.is_well.ensures ∙ c.if-not-is_well.false)

pub returns-in-Ok-count-clause-ok : goal.returns-in-Ok-count-clause-ok
returns-in-Ok-count-clause-ok c =
    runs_well c.args.setup c.in-Ok.close c.args.answers.now (view_of c.args.site.now.site) (view_of c.session.new.site.site) c.requires.none c.in-Ok.ensures.closed
    (sym c.is_well.ensures ∙ c.if-not-is_well.false) (view_of c.count.new.disk.site) c.in-Ok-count.summary c.count.ensures.keeps c.count.ensures.few c.count.ensures.says c.in-Ok-count.ensures.counts
