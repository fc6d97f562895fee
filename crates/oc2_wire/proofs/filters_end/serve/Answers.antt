use Rattle.std.proofs.Common.{◌+◌, ◌∙◌, Ok, Err, Some, None, refl, sym, subst, ap, arith}
use Rattle.oc2_wire_site.specs.WireOf.{wire_of}
use Rattle.oc2_wire.specs.FilterTurns.{EndedInTurns, GoesOnWith}
use Rattle.oc2_wire.specs.Turns.{HasTurns, TookAs}
use Rattle.oc2_wire.specs.declared.tally.Tally.{Tally}
use Rattle.oc2_wire.proofs.ServeLoop.{acted_few, begins_with, counted_more, now_in_hand, one_more, refused_first, refused_last, took_err, took_none}
use Rattle.oc2_wire.proofs.TurnLemmas.{ends_refused, ends_took, ends_turns, goes_none, one_turn, turns_begin}
use Rattle.oc2_wire.proofs.filters_end.serve.Goals as goal

pub returns-in-Err : goal.returns-in-Err
returns-in-Err g c =
    let old = wire_of g.S.Disk.view g.K.Link.view c.args.wire.now in
    let now = wire_of g.S.Disk.view g.K.Link.view c.open_filters.new.wire in
    subst (λ e. EndedInTurns (Err e) old now) (sym c.of_opening.ensures) (record {
      ended = refused_first old now c.in-Err.error c.is_sound.ensures refl refl c.in-Err.ensures.opened c.in-Err.ensures.reads_none c.in-Err.ensures.whole c.requires.answering;
      turns = goes_none c.in-Err.error old now c.in-Err.ensures.opened;
    })

pub loop-parcel-init : goal.loop-parcel-init
loop-parcel-init g c = record {
  going = begins_with (wire_of g.S.Disk.view g.K.Link.view c.args.wire.now) (wire_of g.S.Disk.view g.K.Link.view c.open_filters.new.wire) c.in-Ok.filters c.is_sound.ensures refl refl c.in-Ok.ensures.opened
      c.in-Ok.ensures.reads_none c.requires.whole;
  turns = turns_begin (wire_of g.S.Disk.view g.K.Link.view c.args.wire.now) (wire_of g.S.Disk.view g.K.Link.view c.open_filters.new.wire) c.in-Ok.filters c.in-Ok.ensures.opened c.in-Ok.ensures.reads_none;
}

pub answer_command-requires-clause-filters : goal.answer_command-requires-clause-filters
answer_command-requires-clause-filters g c =
    let old = wire_of g.S.Disk.view g.K.Link.view c.args.wire.now in
    let w = wire_of g.S.Disk.view g.K.Link.view c.loop-parcel.wire in
    let t = wire_of g.S.Disk.view g.K.Link.view c.take_command.new.wire in
    let took : TookAs (Ok (Some c.in-Ok-Some.parcel)) old.lines.passed c.loop-parcel.tally.repeated w t =
    subst (λ n. TookAs (Ok (Some c.in-Ok-Some.parcel)) n c.loop-parcel.tally.repeated w t) c.passed-first.ensures
    (subst (λ o. TookAs (Ok o) c.passed-first.result c.loop-parcel.tally.repeated w t) c.in-Ok-Some.field-0-is c.in-Ok-Some.ensures) in
    (now_in_hand old w c.loop-parcel.filters c.loop-parcel.tally c.loop-parcel.invariant.going t t c.loop-parcel.filters c.in-Ok-Some.parcel refl took).ready

pub answer_command-requires-clause-whole : goal.answer_command-requires-clause-whole
answer_command-requires-clause-whole g c =
    let t = wire_of g.S.Disk.view g.K.Link.view c.take_command.new.wire in
    let w = wire_of g.S.Disk.view g.K.Link.view c.loop-parcel.wire in
    let took : TookAs (Ok (Some c.in-Ok-Some.parcel)) c.passed-first.result c.loop-parcel.tally.repeated w t =
    subst (λ o. TookAs (Ok o) c.passed-first.result c.loop-parcel.tally.repeated w t) c.in-Ok-Some.field-0-is c.in-Ok-Some.ensures in
    took.0.whole

pub count-requires-clause-acted : goal.count-requires-clause-acted
count-requires-clause-acted g c =
    let few = acted_few (wire_of g.S.Disk.view g.K.Link.view c.args.wire.now) (wire_of g.S.Disk.view g.K.Link.view c.loop-parcel.wire) c.loop-parcel.filters c.loop-parcel.tally c.loop-parcel.invariant.going in
    omega (arith, few)

pub returns-in-Err-answer_command : goal.returns-in-Err-answer_command
returns-in-Err-answer_command g c =
    let old = wire_of g.S.Disk.view g.K.Link.view c.args.wire.now in
    let w = wire_of g.S.Disk.view g.K.Link.view c.loop-parcel.wire in
    let t = wire_of g.S.Disk.view g.K.Link.view c.take_command.new.wire in
    let u = wire_of g.S.Disk.view g.K.Link.view c.answer_command.new.wire in
    let took : TookAs (Ok (Some c.in-Ok-Some.parcel)) old.lines.passed c.loop-parcel.tally.repeated w t =
    subst (λ n. TookAs (Ok (Some c.in-Ok-Some.parcel)) n c.loop-parcel.tally.repeated w t) c.passed-first.ensures
    (subst (λ o. TookAs (Ok o) c.passed-first.result c.loop-parcel.tally.repeated w t) c.in-Ok-Some.field-0-is c.in-Ok-Some.ensures) in
    record {
      ended = refused_last old w c.loop-parcel.filters c.loop-parcel.tally c.loop-parcel.invariant.going t u c.answer_command.new.filters c.in-Ok-Some.parcel refl took c.in-Err-answer_command.error
          c.requires.answering c.in-Err-answer_command.ensures;
      turns = ends_turns (Err c.in-Err-answer_command.error) old w u c.loop-parcel.tally.repeated c.loop-parcel.filters c.loop-parcel.invariant.turns
          (ends_refused c.in-Err-answer_command.error c.in-Ok-Some.parcel old.lines.passed c.loop-parcel.tally.repeated w t u c.loop-parcel.filters c.answer_command.new.filters took c.in-Err-answer_command.ensures);
    }

pub loop-parcel-smaller : goal.loop-parcel-smaller
loop-parcel-smaller g c =
    let old = wire_of g.S.Disk.view g.K.Link.view c.args.wire.now in
    let w = wire_of g.S.Disk.view g.K.Link.view c.loop-parcel.wire in
    let t = wire_of g.S.Disk.view g.K.Link.view c.take_command.new.wire in
    let u = wire_of g.S.Disk.view g.K.Link.view c.answer_command.new.wire in
    let took : TookAs (Ok (Some c.in-Ok-Some.parcel)) old.lines.passed c.loop-parcel.tally.repeated w t =
    subst (λ n. TookAs (Ok (Some c.in-Ok-Some.parcel)) n c.loop-parcel.tally.repeated w t) c.passed-first.ensures
    (subst (λ o. TookAs (Ok o) c.passed-first.result c.loop-parcel.tally.repeated w t) c.in-Ok-Some.field-0-is c.in-Ok-Some.ensures) in
    let going : GoesOnWith old u c.answer_command.new.filters c.count.new.self =
    subst (λ x. GoesOnWith old u c.answer_command.new.filters x) (sym c.count.ensures)
    (one_more old w c.loop-parcel.filters c.loop-parcel.tally c.loop-parcel.invariant.going t u c.answer_command.new.filters c.in-Ok-Some.parcel refl took c.in-Ok-answer_command.acted
    c.in-Ok-answer_command.ensures) in
    let few = acted_few old u c.answer_command.new.filters c.count.new.self going in
    let calm = going.calm in
    let more = ap (λ (x : Tally). x.acted + x.repeated) c.count.ensures ∙ counted_more c.in-Ok-answer_command.acted c.loop-parcel.tally in
    omega (arith, more, few, calm)

pub loop-parcel-preserved : goal.loop-parcel-preserved
loop-parcel-preserved g c =
    let old = wire_of g.S.Disk.view g.K.Link.view c.args.wire.now in
    let w = wire_of g.S.Disk.view g.K.Link.view c.loop-parcel.wire in
    let t = wire_of g.S.Disk.view g.K.Link.view c.take_command.new.wire in
    let u = wire_of g.S.Disk.view g.K.Link.view c.answer_command.new.wire in
    let took : TookAs (Ok (Some c.in-Ok-Some.parcel)) old.lines.passed c.loop-parcel.tally.repeated w t =
    subst (λ n. TookAs (Ok (Some c.in-Ok-Some.parcel)) n c.loop-parcel.tally.repeated w t) c.passed-first.ensures
    (subst (λ o. TookAs (Ok o) c.passed-first.result c.loop-parcel.tally.repeated w t) c.in-Ok-Some.field-0-is c.in-Ok-Some.ensures) in
    record {
      going = subst (λ x. GoesOnWith old u c.answer_command.new.filters x) (sym c.count.ensures)
          (one_more old w c.loop-parcel.filters c.loop-parcel.tally c.loop-parcel.invariant.going t u c.answer_command.new.filters c.in-Ok-Some.parcel refl took c.in-Ok-answer_command.acted
          c.in-Ok-answer_command.ensures);
      turns = subst (λ (x : Tally). HasTurns old u x.repeated c.answer_command.new.filters) (sym c.count.ensures)
          (one_turn c.in-Ok-answer_command.acted c.in-Ok-Some.parcel old w t u c.loop-parcel.filters c.answer_command.new.filters c.loop-parcel.tally c.loop-parcel.invariant.turns took c.in-Ok-answer_command.ensures);
    }

pub returns-in-Ok-None : goal.returns-in-Ok-None
returns-in-Ok-None g c =
    let old = wire_of g.S.Disk.view g.K.Link.view c.args.wire.now in
    let w = wire_of g.S.Disk.view g.K.Link.view c.loop-parcel.wire in
    let t = wire_of g.S.Disk.view g.K.Link.view c.take_command.new.wire in
    let took : TookAs (Ok None) old.lines.passed c.loop-parcel.tally.repeated w t =
    subst (λ n. TookAs (Ok None) n c.loop-parcel.tally.repeated w t) c.passed-first.ensures
    (subst (λ o. TookAs (Ok o) c.passed-first.result c.loop-parcel.tally.repeated w t) c.in-Ok-None.field-0-is c.in-Ok-None.ensures) in
    record {
      ended = took_none old w c.loop-parcel.filters c.loop-parcel.tally c.loop-parcel.invariant.going t c.requires.answering took;
      turns = ends_turns (Ok c.loop-parcel.tally.acted) old w t c.loop-parcel.tally.repeated c.loop-parcel.filters c.loop-parcel.invariant.turns took;
    }

pub returns-in-Err-take_command : goal.returns-in-Err-take_command
returns-in-Err-take_command g c =
    let old = wire_of g.S.Disk.view g.K.Link.view c.args.wire.now in
    let w = wire_of g.S.Disk.view g.K.Link.view c.loop-parcel.wire in
    let t = wire_of g.S.Disk.view g.K.Link.view c.take_command.new.wire in
    let took : TookAs (Err c.in-Err-take_command.error) old.lines.passed c.loop-parcel.tally.repeated w t =
    subst (λ n. TookAs (Err c.in-Err-take_command.error) n c.loop-parcel.tally.repeated w t) c.passed-first.ensures c.in-Err-take_command.ensures in
    record {
      ended = took_err old w c.loop-parcel.filters c.loop-parcel.tally c.loop-parcel.invariant.going t c.in-Err-take_command.error c.requires.answering took;
      turns = ends_turns (Err c.in-Err-take_command.error) old w t c.loop-parcel.tally.repeated c.loop-parcel.filters c.loop-parcel.invariant.turns
          (ends_took c.in-Err-take_command.error old.lines.passed c.loop-parcel.tally.repeated w t c.loop-parcel.filters took);
    }
