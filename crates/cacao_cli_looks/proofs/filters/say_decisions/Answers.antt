-- The filter was not opened.
use Rattle.std.proofs.Common.{◌∙◌, inl, sym, ap, subst, Err, List, map, String, Global, string_bytes}
use Rattle.cacao_cli_filters.specs.Lines.{decision_lines}
use Rattle.cacao_cli_ends.specs.Told.{end_of}
use Rattle.cacao_cli_ends.specs.Lines.{SaysWork}
use Rattle.cacao_site.specs.View.{SiteView}
use Rattle.cacao_cli_ends.specs.Ends.{End, done}
use Rattle.cacao_cli_looks.specs.Looking.{Looks}
use Rattle.cacao_cli_looks.specs.Openings.{Opens}
use Rattle.cacao_cli_ends.specs.Work.{at_decisions, opens_filter}
use Rattle.cacao_cli_looks.proofs.FilterLemmas.{not-opened}
use Rattle.cacao_cli_looks.proofs.filters.say_decisions.Goals as goal

pub returns-in-Err : goal.returns-in-Err
returns-in-Err g c =
    let old : SiteView = g.S.Disk.view c.args.site.now in
    let new : SiteView = g.S.Disk.view c.open_on.new.disk in
    let opens : Opens c.args.agent.number old new = record { only = c.in-Err.ensures.only; calls = c.in-Err.ensures.calls; written = c.in-Err.ensures.bytes } in
    subst (λ (e : End). Looks (opens_filter c.args.agent.number (at_decisions c.args.packets.now)) old new e) (sym c.open_end.ensures)
    (not-opened c.args.agent.number (at_decisions c.args.packets.now) old new c.in-Err.error (c.args.agent.low, c.args.agent.high) opens (λ place e. c.in-Err.ensures.damaged place (ap Err e)) (λ place e. c.in-Err.ensures.damaged_durable place (ap Err e))
    (λ e. c.in-Err.ensures.disk (ap Err e)) (λ other. c.in-Err.ensures.steady (λ e. other (cc))) (λ e. (c.in-Err.ensures.no_other 0).0 (ap Err e)) (λ needed e. (c.in-Err.ensures.no_other needed).1 (ap Err e)))

pub returns-in-Ok-decision_lines : goal.returns-in-Ok-decision_lines
returns-in-Ok-decision_lines g c =
    inl (record {
      between = g.S.Disk.view c.open_on.new.disk;
      opens = record { only = c.in-Ok.ensures.only; calls = c.in-Ok.ensures.calls; written = c.in-Ok.ensures.bytes };
      durable = c.in-Ok.ensures.durable;
      steady = c.in-Ok.ensures.steady (λ e. cc);
      acts = c.in-Ok.actuator.acts;
      history = c.in-Ok.ensures.ready.history;
      holds = c.in-Ok.ensures.stands;
      lines = map string_bytes c.in-Ok-decision_lines.lines.items;
      are = c.in-Ok-decision_lines.ensures ∙ ap (decision_lines c.args.packets.now) c.table.ensures;
      says = subst (λ (l : List (String Global)). SaysWork (map string_bytes l) done (g.S.Disk.view c.open_on.new.disk) (g.S.Disk.view c.say_all.new.site) (end_of c.say_all.result)) c.as_slice.ensures.value c.say_all.ensures;
    })
