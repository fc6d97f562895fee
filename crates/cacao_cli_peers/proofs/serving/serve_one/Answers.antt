use Rattle.std.proofs.Common.{◌≡◌, ◌∙◌, refl, sym, ap, subst, ℕ, false, inl, Result, Err}
use Rattle.std.specs.Prelude.{IsErrOf}
use Rattle.oc2_wire.specs.declared.error.WireError.{WireError}
use Rattle.oc2_wire.specs.declared.error.WireError.TheVariants as error
use Rattle.oc2_wire_link.specs.Peering.{IsAsTold}
use Rattle.oc2_wire_site.specs.Wires.{WireView, new_wire}
use Rattle.oc2_wire_site.specs.Entries.{empty_by, puts_by, taken_by}
use Rattle.oc2_wire_site.specs.LinesOf.{mark_of}
use Rattle.oc2_wire_site.specs.ReadLines.{mark_now}
use Rattle.oc2_wire_site.specs.WireOf.{wire_of}
use Rattle.cacao_cli_ends.specs.Told.{end_of}
use Rattle.cacao_cli_peers.specs.FilterServing.{served_end}
use Rattle.cacao_cli_peers.specs.PeerCounts.{Closes, behind_close}
use Rattle.cacao_cli_peers.specs.SitesBeneath.{beneath}
use Rattle.cacao_cli_peers.proofs.BackLemmas.{lent-as, over-site, same-name, same-now, seen, served-label}
use Rattle.cacao_cli_peers.proofs.serving.serve_one.Goals as goal
use Rattle.cacao_cli_peers.proofs.serving.serve_one.Goals.{in-Ok-serve_agent, in-Err}

failed-disk : (how : Result ℕ WireError) (T : Type 0) → (IsErrOf how error.Disk → T) → how ≡ Err error.Disk → T
failed-disk how T rose is = rose (subst (λ (r : Result ℕ WireError). IsErrOf r error.Disk) (sym is) refl)

-- by the label of its disk it is the site that was lent
pub returns-clause-accepts : goal.returns-clause-accepts
returns-clause-accepts g c =
    let made = c.answering_in-wire.result in
    let w = c.serve_agent.new.wire in
    let first = wire_of (seen g.S.Disk.view) g.P.Out.Link.view made in
    let last = wire_of (seen g.S.Disk.view) g.P.Out.Link.view w in
    let old = g.S.Disk.view c.args.site.now in
    let begun : first ≡ new_wire (beneath c.new-lent.result.site.ghost_name old 0 old) (g.P.Out.Link.view c.in-Ok.link) false =
    c.answering_in-wire.ensures.view ∙ lent-as c.new-lent.result.site.ghost_name (g.S.Disk.view c.new-lent.result.lent.value) (g.S.Disk.view c.new-lent.result.site.now) old c.new-lent.result.lost (g.P.Out.Link.view c.in-Ok.link) false
    (ap g.S.Disk.view c.new-lent.ensures.lent) (ap g.S.Disk.view c.new-lent.ensures.site) in
    let over = over-site false w.asking c.new-lent.result.site.ghost_name w.site.site.ghost_name old (g.S.Disk.view w.site.lent.value) (g.S.Disk.view w.site.site.now) (g.S.Disk.view c.site-1.given.0) w.site.lost
    (g.P.Out.Link.view c.in-Ok.link) (mark_of g.P.Out.Link.view w.mark) (puts_by (seen g.S.Disk.view) w.puts.items) (taken_by (seen g.S.Disk.view) w.taken.items) (empty_by (seen g.S.Disk.view) w.empty.items) w.mishaps
    first last begun refl (served-label c.serve_agent.result first last c.serve_agent.ensures.served) w.site.leaves
    (λ same. ap g.S.Disk.view (c.site-1.given.1 (sym c.new-lent.ensures.same_reference ∙ sym same ∙ sym (same-name c.into_parts-lent.ensures.site) ∙ sym c.into_site-back.ensures.same_reference)
    ∙ c.into_site-back.ensures.site ∙ same-now c.into_parts-lent.ensures.site)) in
    let marked : first.mark ≡ mark_now first = subst (λ (v : WireView). v.mark ≡ mark_now v) (sym begun) refl in
    let ends : end_of c.match-serve_agent.end ≡ served_end c.serve_agent.result =
    elim c.match-serve_agent.branch [
      | in-Ok-serve_agent v ↦ ap end_of v.end-is ∙ sym (ap served_end v.in-Ok-serve_agent.is)
      | in-Err v ↦ ap end_of v.end-is ∙ v.wire_end-end.ensures ∙ sym (ap served_end v.in-Err.is)
    ] in
    inl (record {
      between = g.P.Peers.view c.accept.new.self;
      accepts = (c.in-Ok.ensures.counts, c.in-Ok.ensures.faultless);
      serves = record {
        first = first;
        wire = last;
        over = over;
        how = c.serve_agent.result;
        served = c.serve_agent.ensures.served;
        turns = c.serve_agent.ensures.turns;
        kept = c.serve_agent.ensures.keeps;
        lines = c.state.ensures.holds;
        link = c.serve_agent.ensures.link;
        read = c.serve_agent.ensures.read marked;
        by_lines = c.serve_agent.ensures.by_lines marked;
        failed = failed-disk c.serve_agent.result _ c.serve_agent.ensures.disk;
        steady = c.serve_agent.ensures.steady;
        fails = c.close_behind-last.ensures.closes.0;
        closes = subst (λ (l : g.row.P-Out.Denot). Closes (g.P.Out.Link.view l) c.close_behind-last.ensures.closes.0 (g.P.Peers.view c.accept.new.self) (g.P.Peers.view c.close_behind-last.new.peers))
            c.into_parts-lent.ensures.link c.close_behind-last.ensures.closes.1;
        ends = c.close_behind-last.ensures.closes.2 ∙ ap (behind_close c.close_behind-last.ensures.closes.0) ends;
      };
      gives = subst (λ (v : WireView). IsAsTold (g.P.Peers.view c.args.peers.now).next v.lines.link) (sym begun) c.in-Ok.ensures.gives;
    })
