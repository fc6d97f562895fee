-- By the label it is the wire that was lent.
use Rattle.std.proofs.Common.{ap, refl, sym, ◌∙◌, subst, ℕ}
use Rattle.flow_world_parts.specs.Acting.{OneAnswers}
use Rattle.flow_world_steps.specs.Sides.{FiltersReady}
use Rattle.oc2_wire_site.specs.WireOf.{wire_of}
use Rattle.oc2_wire.specs.ReplyWires.{lent_wire}
use Rattle.oc2_wire.proofs.LentWires.{filters_lent, handed_back}
use Rattle.oc2_wire.proofs.handing.hand.Goals as goal

pub act-handed-requires-clause-filters : goal.act-handed-requires-clause-filters
act-handed-requires-clause-filters g c =
    let was = c.new-lent.result in
    subst (λ w. FiltersReady c.args.filters.now (lent_wire was.wire.ghost_name (wire_of g.S.Disk.view g.K.Link.view was.lent.value) was.put (wire_of g.S.Disk.view g.K.Link.view w))) (sym c.new-lent.ensures.wire)
    (filters_lent was.wire.ghost_name c.args.filters.now (wire_of g.S.Disk.view g.K.Link.view was.lent.value) (wire_of g.S.Disk.view g.K.Link.view c.args.wire.now) was.put c.requires.filters)

pub returns-clause-handed : goal.returns-clause-handed
returns-clause-handed g c =
    let v = c.act-handed.new.site in
    let was = c.new-lent.result in
    let end = c.wire-1.given in
    let first = λ (n : ℕ). lent_wire was.wire.ghost_name (wire_of g.S.Disk.view g.K.Link.view was.lent.value) n (wire_of g.S.Disk.view g.K.Link.view was.wire.now) in
    handed_back was.wire.ghost_name v.wire.ghost_name (wire_of g.S.Disk.view g.K.Link.view c.args.wire.now) (wire_of g.S.Disk.view g.K.Link.view was.lent.value)
    (wire_of g.S.Disk.view g.K.Link.view v.lent.value) (wire_of g.S.Disk.view g.K.Link.view was.wire.now) (wire_of g.S.Disk.view g.K.Link.view v.wire.now) v.put (wire_of g.S.Disk.view g.K.Link.view end.0)
    (record {
      is = ap (wire_of g.S.Disk.view g.K.Link.view) c.new-lent.ensures.wire;
      lent_is = ap (wire_of g.S.Disk.view g.K.Link.view) c.new-lent.ensures.lent;
      keeps = v.keeps;
      end = λ same. ap (wire_of g.S.Disk.view g.K.Link.view) (end.1 (sym c.new-lent.ensures.same_reference ∙ sym same ∙ sym c.into_wire-back.ensures.same_reference) ∙ c.into_wire-back.ensures.wire);
      untold = (refl, refl);
    })
    c.act-handed.result c.args.parcel.now c.args.now c.args.filters.now c.act-handed.new.self
    (subst (λ (n : ℕ). OneAnswers c.act-handed.result c.args.parcel.now c.args.now (first n)
    (lent_wire v.wire.ghost_name (wire_of g.S.Disk.view g.K.Link.view v.lent.value) v.put (wire_of g.S.Disk.view g.K.Link.view v.wire.now)) c.args.filters.now c.act-handed.new.self) c.new-lent.ensures.none c.act-handed.ensures.answers)
    c.act-handed.ensures.filters
