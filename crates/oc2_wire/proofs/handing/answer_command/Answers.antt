use Rattle.std.proofs.Common.{◌∙◌, Ok, Err, ap, sym, subst}
use Rattle.oc2_wire_site.specs.LineLinks.{LinesView}
use Rattle.oc2_wire_site.specs.WireOf.{wire_of}
use Rattle.oc2_wire.specs.FilterTurns.{AnsweredAs}
use Rattle.oc2_wire.proofs.Answered.{answered_err, hands_on, is_late, ready_now}
use Rattle.oc2_wire.proofs.handing.answer_command.Goals as goal

pub returns-then-now-gt-LAST_MOMENT : goal.returns-then-now-gt-LAST_MOMENT
returns-then-now-gt-LAST_MOMENT g c =
    is_late (wire_of g.S.Disk.view g.K.Link.view c.args.wire.now) (wire_of g.S.Disk.view g.K.Link.view c.reach-now.new.self) c.args.filters.now c.reach-now.result c.is_sound.ensures c.reach-now.ensures.reaches
    c.reach-now.ensures.wire c.if-now-gt-LAST_MOMENT.true

pub hand-handed-requires-clause-filters : goal.hand-handed-requires-clause-filters
hand-handed-requires-clause-filters g c =
    ready_now (wire_of g.S.Disk.view g.K.Link.view c.args.wire.now) (wire_of g.S.Disk.view g.K.Link.view c.reach-now.new.self) c.reach-now.result c.args.filters.now c.reach-now.ensures.reaches c.requires.filters

pub hand-handed-requires-clause-whole : goal.hand-handed-requires-clause-whole
hand-handed-requires-clause-whole g c = ap (λ (l : LinesView). l.state) c.reach-now.ensures.wire.lines ∙ c.requires.whole

pub returns-in-Ok : goal.returns-in-Ok
returns-in-Ok g c =
    hands_on (Ok c.in-Ok.acted) c.args.parcel.now (wire_of g.S.Disk.view g.K.Link.view c.args.wire.now) (wire_of g.S.Disk.view g.K.Link.view c.reach-now.new.self)
    (wire_of g.S.Disk.view g.K.Link.view c.hand-handed.new.wire) c.args.filters.now c.hand-handed.new.filters c.reach-now.result c.is_sound.ensures c.reach-now.ensures.reaches c.reach-now.ensures.wire
    c.if-now-gt-LAST_MOMENT.false c.is_sound-2.ensures c.is_sound-3.ensures c.in-Ok.ensures.handed

pub returns-in-Err : goal.returns-in-Err
returns-in-Err g c =
    subst (λ e. AnsweredAs (Err e) c.args.parcel.now (wire_of g.S.Disk.view g.K.Link.view c.args.wire.now) (wire_of g.S.Disk.view g.K.Link.view c.hand-handed.new.wire) c.args.filters.now c.hand-handed.new.filters)
    (sym c.of_act.ensures)
    (answered_err c.in-Err.error c.args.parcel.now (wire_of g.S.Disk.view g.K.Link.view c.args.wire.now) (wire_of g.S.Disk.view g.K.Link.view c.hand-handed.new.wire) c.args.filters.now c.hand-handed.new.filters
    c.in-Err.ensures.may
    (hands_on (Err c.in-Err.error) c.args.parcel.now (wire_of g.S.Disk.view g.K.Link.view c.args.wire.now) (wire_of g.S.Disk.view g.K.Link.view c.reach-now.new.self)
    (wire_of g.S.Disk.view g.K.Link.view c.hand-handed.new.wire) c.args.filters.now c.hand-handed.new.filters c.reach-now.result c.is_sound.ensures c.reach-now.ensures.reaches c.reach-now.ensures.wire
    c.if-now-gt-LAST_MOMENT.false c.is_sound-2.ensures c.is_sound-3.ensures c.in-Err.ensures.handed))
