-- The engine's file was not opened, or has no report.
use Rattle.std.proofs.Common.{inl, sym, ap, subst, Err}
use Rattle.cacao_site.specs.View.{SiteView}
use Rattle.cacao_cli_ends.specs.Ends.{End}
use Rattle.cacao_cli_looks.specs.Looking.{Looks}
use Rattle.cacao_cli_looks.specs.Openings.{Opens}
use Rattle.cacao_cli_ends.specs.Work.{opens_run}
use Rattle.cacao_cli_looks.proofs.RunLemmas.{no-report, not-opened}
use Rattle.cacao_cli_looks.proofs.show_command.show.Goals as goal

pub returns-in-Err : goal.returns-in-Err
returns-in-Err g c =
    let old : SiteView = g.S.Disk.view c.args.site.now in
    let new : SiteView = g.S.Disk.view c.open_on.new.disk in
    let opens : Opens 0 old new = record {
      only = record { each = c.in-Err.ensures.each_beat; others = c.in-Err.ensures.others; rest = c.in-Err.ensures.rest };
      calls = c.in-Err.ensures.calls;
      written = c.in-Err.ensures.bytes;
    } in
    subst (λ (e : End). Looks opens_run old new e) (sym c.journal_end.ensures)
    (not-opened old new c.in-Err.error opens (λ place e told. inl (c.in-Err.ensures.damaged place (ap Err e) told)) (λ place e. c.in-Err.ensures.damaged_durable place (ap Err e))
    (λ e. c.in-Err.ensures.disk (ap Err e)) (λ other. c.in-Err.ensures.steady (λ e. other (cc))) (λ e. (c.in-Err.ensures.no_other 0).0 (ap Err e)) (λ needed e. (c.in-Err.ensures.no_other needed).1 (ap Err e)))

pub returns : goal.returns
returns g c =
    let old : SiteView = g.S.Disk.view c.args.site.now in
    let new : SiteView = g.S.Disk.view c.open_on.new.disk in
    let opens : Opens 0 old new = record {
      only = record { each = c.in-Ok.ensures.each_beat; others = c.in-Ok.ensures.others; rest = c.in-Ok.ensures.rest };
      calls = c.in-Ok.ensures.calls;
      written = c.in-Ok.ensures.bytes;
    } in
    subst (λ (e : End). Looks opens_run old new e) (sym c.report_end.ensures)
    (no-report old new c.in-Ok.journal.items c.in-Err-run_report.error opens c.in-Ok.ensures.durable (c.in-Ok.ensures.steady (λ e. cc)) c.in-Ok.ensures.stands (λ place e. c.in-Err-run_report.ensures.damaged place (ap Err e))
    (λ e. c.in-Err-run_report.ensures.tasks (ap Err e)))
