-- The filter was not opened.
use Rattle.std.proofs.Common.{sym, ap, subst, Err}
use Rattle.cacao_site.specs.View.{SiteView}
use Rattle.cacao_cli_ends.specs.Ends.{End}
use Rattle.cacao_cli_looks.specs.Looking.{Looks}
use Rattle.cacao_cli_looks.specs.Openings.{Opens}
use Rattle.cacao_cli_ends.specs.Work.{at_shadows, opens_filter}
use Rattle.cacao_cli_looks.proofs.FilterLemmas.{not-opened}
use Rattle.cacao_cli_looks.proofs.filters.say_shadows.Goals as goal

pub returns-in-Err : goal.returns-in-Err
returns-in-Err g c =
    let old : SiteView = g.S.Disk.view c.args.site.now in
    let new : SiteView = g.S.Disk.view c.open_on.new.disk in
    let opens : Opens c.args.agent.number old new = record { only = c.in-Err.ensures.only; calls = c.in-Err.ensures.calls; written = c.in-Err.ensures.bytes } in
    subst (λ (e : End). Looks (opens_filter c.args.agent.number at_shadows) old new e) (sym c.open_end.ensures)
    (not-opened c.args.agent.number at_shadows old new c.in-Err.error (c.args.agent.low, c.args.agent.high) opens (λ place e. c.in-Err.ensures.damaged place (ap Err e)) (λ place e. c.in-Err.ensures.damaged_durable place (ap Err e))
    (λ e. c.in-Err.ensures.disk (ap Err e)) (λ other. c.in-Err.ensures.steady (λ e. other (cc))) (λ e. (c.in-Err.ensures.no_other 0).0 (ap Err e)) (λ needed e. (c.in-Err.ensures.no_other needed).1 (ap Err e)))
