use Rattle.std.proofs.Common.{◌≡◌, ◌∙◌, refl, sym, ap, subst, true, inr}
use Rattle.oc2_wire_link.specs.Peering.{IsAsTold}
use Rattle.oc2_wire_site.specs.Entries.{empty_by, puts_by, taken_by}
use Rattle.oc2_wire_site.specs.LinesOf.{mark_of}
use Rattle.oc2_wire_site.specs.ReadLines.{mark_now}
use Rattle.oc2_wire_site.specs.WireOf.{wire_of}
use Rattle.oc2_wire_site.specs.Wires.{WireView, new_wire}
use Rattle.cacao_cli_ends.specs.Told.{end_of}
use Rattle.cacao_cli_peers.specs.PeerCounts.{Closes}
use Rattle.cacao_cli_peers.specs.SitesBeneath.{beneath}
use Rattle.cacao_cli_peers.proofs.BackLemmas.{lent-as, over-site, pair-calls, same-name, same-now, seen, session-over, session_end}
use Rattle.cacao_cli_peers.proofs.pairing.pair_up.Goals as goal
use Rattle.cacao_cli_peers.proofs.pairing.pair_up.Goals.{in-Ok-serve_engine, in-Err}

-- by the label of its disk it is the site that was lent
pub returns-clause-pairs : goal.returns-clause-pairs
returns-clause-pairs g c =
    let made = c.asking_in-wire.result in
    let w = c.serve_engine.new.wire in
    let old = g.S.Disk.view c.args.site.now in
    let begun : wire_of (seen g.S.Disk.view) g.P.Out.Link.view made ≡ new_wire (beneath c.new-lent.result.site.ghost_name old 0 old) (g.P.Out.Link.view c.in-Ok.link) true =
    c.asking_in-wire.ensures.view ∙ lent-as c.new-lent.result.site.ghost_name (g.S.Disk.view c.new-lent.result.lent.value) (g.S.Disk.view c.new-lent.result.site.now) old c.new-lent.result.lost (g.P.Out.Link.view c.in-Ok.link) true
    (ap g.S.Disk.view c.new-lent.ensures.lent) (ap g.S.Disk.view c.new-lent.ensures.site) in
    let over = over-site true w.asking c.new-lent.result.site.ghost_name w.site.site.ghost_name old (g.S.Disk.view w.site.lent.value) (g.S.Disk.view w.site.site.now) (g.S.Disk.view c.site-1.given.0) w.site.lost
    (g.P.Out.Link.view c.in-Ok.link) (mark_of g.P.Out.Link.view w.mark) (puts_by (seen g.S.Disk.view) w.puts.items) (taken_by (seen g.S.Disk.view) w.taken.items) (empty_by (seen g.S.Disk.view) w.empty.items) w.mishaps
    (wire_of (seen g.S.Disk.view) g.P.Out.Link.view made) (wire_of (seen g.S.Disk.view) g.P.Out.Link.view w) begun refl c.serve_engine.ensures.disk.label w.site.leaves
    (λ same. ap g.S.Disk.view (c.site-1.given.1 (sym c.new-lent.ensures.same_reference ∙ sym same ∙ sym (same-name c.into_parts-lent.ensures.site) ∙ sym c.into_site-back.ensures.same_reference)
    ∙ c.into_site-back.ensures.site ∙ same-now c.into_parts-lent.ensures.site)) in
    let ends : end_of c.match-serve_engine.end ≡ session_end c.serve_engine.result =
    elim c.match-serve_engine.branch [
      | in-Ok-serve_engine v ↦ ap end_of v.end-is ∙ v.close_end-end.ensures ∙ sym (ap session_end v.in-Ok-serve_engine.is)
      | in-Err v ↦ ap end_of v.end-is ∙ v.wire_end-end.ensures ∙ sym (ap session_end v.in-Err.is)
    ] in
    let session = session-over c.args.setup c.args.run c.args.most c.args.answers.now (wire_of (seen g.S.Disk.view) g.P.Out.Link.view made).site (wire_of (seen g.S.Disk.view) g.P.Out.Link.view w).site
    (end_of c.match-serve_engine.end) c.serve_engine.result ends c.serve_engine.ensures.served c.serve_engine.ensures.refused c.serve_engine.ensures.kept c.serve_engine.ensures.goes_on c.serve_engine.ensures.steady in
    let marked : (wire_of (seen g.S.Disk.view) g.P.Out.Link.view made).mark ≡ mark_now (wire_of (seen g.S.Disk.view) g.P.Out.Link.view made) =
    subst (λ (v : WireView). v.mark ≡ mark_now v) (sym begun) refl in
    inr (record {
      between = g.P.Peers.view c.start.new.self;
      starts = (c.in-Ok.ensures.counts, c.in-Ok.ensures.faultless);
      first = wire_of (seen g.S.Disk.view) g.P.Out.Link.view made;
      wire = wire_of (seen g.S.Disk.view) g.P.Out.Link.view w;
      over = over;
      gives = subst (λ (v : WireView). IsAsTold (g.P.Peers.view c.args.peers.now).next v.lines.link) (sym begun) c.in-Ok.ensures.gives;
      how = end_of c.match-serve_engine.end;
      session = session;
      lines = c.serve_engine.ensures.lines marked;
      by_lines = c.serve_engine.ensures.by_lines marked;
      fails = c.close_behind-last.ensures.closes.0;
      closes = subst (λ (l : g.row.P-Out.Denot). Closes (g.P.Out.Link.view l) c.close_behind-last.ensures.closes.0 (g.P.Peers.view c.start.new.self) (g.P.Peers.view c.close_behind-last.new.peers))
          c.into_parts-lent.ensures.link c.close_behind-last.ensures.closes.1;
      ends = c.close_behind-last.ensures.closes.2;
    })

pub returns-clause-calls : goal.returns-clause-calls
returns-clause-calls g c = pair-calls _ _ _ c.in-Ok.ensures.counts c.close_behind-last.ensures.closes.1.0
