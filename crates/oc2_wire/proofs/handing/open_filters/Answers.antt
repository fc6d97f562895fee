-- By the label it is the wire that was lent.
use Rattle.std.proofs.Common.{ap, refl, sym, ◌∙◌, subst, ℕ}
use Rattle.std.specs.Prelude.{IfErr, IfOk}
use Rattle.flow_world_parts.specs.Openings.{OpensFilters, RefusesFilters}
use Rattle.oc2_wire.specs.ReplyWires.{lent_wire}
use Rattle.oc2_wire_site.specs.WireOf.{wire_of}
use Rattle.oc2_wire.proofs.LentWires.{opened_back}
use Rattle.oc2_wire.proofs.handing.open_filters.Goals as goal

pub returns : goal.returns
returns g c =
    let v = c.open_on-opened.new.disk in
    let was = c.new-lent.result in
    let end = c.wire-1.given in
    let first = λ (n : ℕ). lent_wire was.wire.ghost_name (wire_of g.S.Disk.view g.K.Link.view was.lent.value) n (wire_of g.S.Disk.view g.K.Link.view was.wire.now) in
    let last = lent_wire v.wire.ghost_name (wire_of g.S.Disk.view g.K.Link.view v.lent.value) v.put (wire_of g.S.Disk.view g.K.Link.view v.wire.now) in
    opened_back was.wire.ghost_name v.wire.ghost_name (wire_of g.S.Disk.view g.K.Link.view c.args.wire.now) (wire_of g.S.Disk.view g.K.Link.view was.lent.value)
    (wire_of g.S.Disk.view g.K.Link.view v.lent.value) (wire_of g.S.Disk.view g.K.Link.view was.wire.now) (wire_of g.S.Disk.view g.K.Link.view v.wire.now) v.put (wire_of g.S.Disk.view g.K.Link.view end.0)
    (record {
      is = ap (wire_of g.S.Disk.view g.K.Link.view) c.new-lent.ensures.wire;
      lent_is = ap (wire_of g.S.Disk.view g.K.Link.view) c.new-lent.ensures.lent;
      keeps = v.keeps;
      end = λ same. ap (wire_of g.S.Disk.view g.K.Link.view) (end.1 (sym c.new-lent.ensures.same_reference ∙ sym same ∙ sym c.into_wire-back.ensures.same_reference) ∙ c.into_wire-back.ensures.wire);
      untold = (refl, refl);
    })
    c.open_on-opened.result
    (subst (λ (n : ℕ). IfOk c.open_on-opened.result (λ fs. OpensFilters 16 (first n) last fs)) c.new-lent.ensures.none c.open_on-opened.ensures.opens)
    (subst (λ (n : ℕ). IfErr c.open_on-opened.result (λ why. RefusesFilters why (first n) last)) c.new-lent.ensures.none c.open_on-opened.ensures.refused)
