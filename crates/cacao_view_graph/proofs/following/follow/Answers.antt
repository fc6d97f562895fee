use Rattle.std.proofs.Common.{◌<◌, inl, arith, drop, length}
use Rattle.flow_engine_history.proofs.OpenLemmas.{first_entry}
use Rattle.flow_engine_reports.specs.Beginnings.{IsNotBegun}
use Rattle.flow_engine_reports.proofs.BeginLemmas.{none-case, some-arm}
use Rattle.cacao_view_log.specs.Sources.{items_of}
use Rattle.cacao_view_log.proofs.LogLemmas.{place_is}
use Rattle.cacao_view_graph.specs.Following.{BeginsCourse}
use Rattle.cacao_view_graph.proofs.CourseLemmas.{begins_take, tells_course}
use Rattle.cacao_view_graph.proofs.following.follow.Goals as goal

pub follow_others-requires : goal.follow_others-requires
follow_others-requires c =
    let items = items_of c.args.source.now in
    let some : 0 < length items = c.requires.some in
    let first = c.entry.result.now in
    let began : BeginsCourse first c.blank-course.result c.in-Ok-Some.flow =
    some-arm (IsNotBegun first) (BeginsCourse first c.blank-course.result) c.in-Ok-Some.field-0 c.in-Ok-Some.flow c.in-Ok-Some.ensures c.in-Ok-Some.field-0-is in
    record {
      whole = c.requires.whole;
      some = omega arith;
      begun = begins_take items first c.in-Ok-Some.flow c.blank-course.result (first_entry items first some c.entry.ensures) began.followed;
    }

pub returns-in-Ok-None-clause-damaged : goal.returns-in-Ok-None-clause-damaged
returns-in-Ok-None-clause-damaged c =
    let items = items_of c.args.source.now in
    let some : 0 < length items = c.requires.some in
    let first = c.entry.result.now in
    let bad : IsNotBegun first = none-case (IsNotBegun first) (BeginsCourse first c.blank-course.result) c.in-Ok-None.field-0 c.in-Ok-None.ensures c.in-Ok-None.field-0-is in
    λ place e. inl (
      record { first = first; others = drop 1 items; are = first_entry items first some c.entry.ensures; bad = bad },
      place_is place e,
    )

pub returns-clause-ok : goal.returns-clause-ok
returns-clause-ok c =
    let items = items_of c.args.source.now in
    let some : 0 < length items = c.requires.some in
    let first = c.entry.result.now in
    let began : BeginsCourse first c.blank-course.result c.in-Ok-Some.flow =
    some-arm (IsNotBegun first) (BeginsCourse first c.blank-course.result) c.in-Ok-Some.field-0 c.in-Ok-Some.flow c.in-Ok-Some.ensures c.in-Ok-Some.field-0-is in
    tells_course items first c.in-Ok-Some.flow c.follow_others.new.flow c.follow_others.new.course (first_entry items first some c.entry.ensures)
    began.begun c.in-Ok.ensures.ok c.law.ensures.sizes.tasks
