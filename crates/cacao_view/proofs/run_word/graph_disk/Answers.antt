-- The engine's file was not opened, or tells nothing.
use Rattle.std.proofs.Common.{◌∙◌, inl, refl, sym, ap, subst, Err}
use Rattle.cacao_site.specs.View.{SiteView}
use Rattle.cacao_cli_ends.specs.Ends.{End}
use Rattle.cacao_cli_looks.specs.Openings.{Opens}
use Rattle.cacao_view_graph.specs.RunPictures.{DrawsEntries}
use Rattle.cacao_view.specs.OpeningRuns.{OpensTo}
use Rattle.cacao_view.proofs.OpenedLemmas.{not-opened, not-told}
use Rattle.cacao_view.proofs.run_word.graph_disk.Goals as goal

pub returns-in-Err : goal.returns-in-Err
returns-in-Err g c =
    let old : SiteView = g.D.Disk.view c.args.disk.now in
    let new : SiteView = g.D.Disk.view c.open_on.new.disk in
    let opens : Opens 0 old new = record {
      only = record { each = c.in-Err.ensures.each_beat; others = c.in-Err.ensures.others; rest = c.in-Err.ensures.rest };
      calls = c.in-Err.ensures.calls;
      written = c.in-Err.ensures.bytes;
    } in
    subst (λ (e : End). OpensTo DrawsEntries old new c.ending.result.lines e) (sym c.journal_end.ensures ∙ sym c.ending.ensures.end)
    (not-opened DrawsEntries old new c.ending.result.lines c.in-Err.error c.ending.ensures.lines opens (λ place e told. inl (c.in-Err.ensures.damaged place (ap Err e) told)) (λ place e. c.in-Err.ensures.damaged_durable place (ap Err e))
    (λ e. c.in-Err.ensures.disk (ap Err e)) (λ other. c.in-Err.ensures.steady (λ e. other (cc))) (λ e. (c.in-Err.ensures.no_other 0).0 (ap Err e)) (λ needed e. (c.in-Err.ensures.no_other needed).1 (ap Err e)))

pub returns-in-Ok-run_picture : goal.returns-in-Ok-run_picture
returns-in-Ok-run_picture g c = inl (record {
  opens = record {
    only = record { each = c.in-Ok.ensures.each_beat; others = c.in-Ok.ensures.others; rest = c.in-Ok.ensures.rest };
    calls = c.in-Ok.ensures.calls;
    written = c.in-Ok.ensures.bytes;
  };
  durable = c.in-Ok.ensures.durable;
  steady = c.in-Ok.ensures.steady (λ e. cc);
  entries = c.in-Ok.journal.items;
  holds = c.in-Ok.ensures.stands;
  are = subst (DrawsEntries c.in-Ok.journal.items) (sym c.from_vec.ensures) c.in-Ok-run_picture.ensures.ok;
  ends = refl;
})

pub returns : goal.returns
returns g c =
    let old : SiteView = g.D.Disk.view c.args.disk.now in
    let new : SiteView = g.D.Disk.view c.open_on.new.disk in
    let opens : Opens 0 old new = record {
      only = record { each = c.in-Ok.ensures.each_beat; others = c.in-Ok.ensures.others; rest = c.in-Ok.ensures.rest };
      calls = c.in-Ok.ensures.calls;
      written = c.in-Ok.ensures.bytes;
    } in
    subst (λ (e : End). OpensTo DrawsEntries old new c.ending-in-Err-run_picture.result.lines e) (sym c.report_end.ensures ∙ sym c.ending-in-Err-run_picture.ensures.end)
    (not-told DrawsEntries old new c.ending-in-Err-run_picture.result.lines c.in-Ok.journal.items c.in-Err-run_picture.error c.ending-in-Err-run_picture.ensures.lines opens c.in-Ok.ensures.durable (c.in-Ok.ensures.steady (λ e. cc)) c.in-Ok.ensures.stands (λ place e. c.in-Err-run_picture.ensures.damaged place (ap Err e))
    (λ e. c.in-Err-run_picture.ensures.tasks (ap Err e)))
