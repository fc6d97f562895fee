use Rattle.std.proofs.Common.{◌∙◌, ap}
use Rattle.std.specs.Prelude.{Ok, Err}
use Rattle.flow_world_steps.specs.EngineCalls.{IsMove}
use Rattle.flow_world_steps.specs.Sides.{IsEngine}
use Rattle.flow_world_steps.proofs.Adding.{moves_now}
use Rattle.flow_world_parts.proofs.MoveSteps.{appended_then, at_work_after, below_after, issues_are, moved_then, ok_true, put_then, refused_so, try_move, unput_after}
use Rattle.flow_world_parts.proofs.moves.make_move.Goals as goal
use Rattle.flow_world_parts.proofs.Standing.{filters_beside, keeps_then}

pub say_last-requires : goal.say_last-requires
say_last-requires g c =
    let so = g.S.Disk.view c.args.site.now in
    let mid = g.S.Disk.view c.step-done.new.site in
    let v = c.args.engine.now in
    let w = c.step-done.new.self in
    let is = c.step-done.ensures.stepped (ok_true c.step-done.result c.in-Ok-true.field-0 c.in-Ok-true.is c.in-Ok-true.field-0-test) in
    let engine : IsEngine w mid = record { ready = c.step-done.ensures.ready; history = c.law.ensures.history; put = c.law.ensures.put } in
    record {
      work = at_work_after (IsMove v.history c.args.now) so mid v w is c.requires.work engine
          (moves_now v.history c.args.now is.adds.offers.comes.next is.adds.offers.comes.is ∙ c.requires.now);
    }

pub put_first-requires-clause-put : goal.put_first-requires-clause-put
put_first-requires-clause-put g c =
    let so = g.S.Disk.view c.args.site.now in
    let mid = g.S.Disk.view c.step-done.new.site in
    let v = c.args.engine.now in
    let w = c.step-done.new.self in
    let is = c.step-done.ensures.stepped (ok_true c.step-done.result c.in-Ok-true.field-0 c.in-Ok-true.is c.in-Ok-true.field-0-test) in
    let counted = issues_are v c.flow.result.now.seen c.issues-issues.result c.flow.ensures.seen c.issues-issues.ensures in
    below_after (IsMove v.history c.args.now) so mid v w is c.issues-issues.result counted c.requires.work.up.has_file.engine.history c.law.ensures.put c.requires.put

pub put_first-requires-clause-unput : goal.put_first-requires-clause-unput
put_first-requires-clause-unput g c =
    let so = g.S.Disk.view c.args.site.now in
    let mid = g.S.Disk.view c.step-done.new.site in
    let v = c.args.engine.now in
    let w = c.step-done.new.self in
    let is = c.step-done.ensures.stepped (ok_true c.step-done.result c.in-Ok-true.field-0 c.in-Ok-true.is c.in-Ok-true.field-0-test) in
    let counted = issues_are v c.flow.result.now.seen c.issues-issues.result c.flow.ensures.seen c.issues-issues.ensures in
    unput_after (IsMove v.history c.args.now) so mid v w is c.issues-issues.result counted c.requires.work.up.has_file.engine.put c.law.ensures.put

pub returns-in-Ok-put_first-clause-put : goal.returns-in-Ok-put_first-clause-put
returns-in-Ok-put_first-clause-put g c =
    let so = g.S.Disk.view c.args.site.now in
    let mid = g.S.Disk.view c.step-done.new.site in
    let v = c.args.engine.now in
    let w = c.step-done.new.self in
    let is = c.step-done.ensures.stepped (ok_true c.step-done.result c.in-Ok-true.field-0 c.in-Ok-true.is c.in-Ok-true.field-0-test) in
    let counted = issues_are v c.flow.result.now.seen c.issues-issues.result c.flow.ensures.seen c.issues-issues.ensures in
    put_then (IsMove v.history c.args.now) so mid v w is c.issues-issues.result counted c.put_first.new.engine c.requires.work.up.has_file.engine.history c.law.ensures.put c.requires.put
    c.in-Ok-put_first.ensures.history c.in-Ok-put_first.ensures.others c.in-Ok-put_first.ensures.put

pub returns-in-Ok-put_first-clause-did : goal.returns-in-Ok-put_first-clause-did
returns-in-Ok-put_first-clause-did g c answers =
    let so = g.S.Disk.view c.args.site.now in
    let mid = g.S.Disk.view c.step-done.new.site in
    let v = c.args.engine.now in
    let w = c.step-done.new.self in
    let is = c.step-done.ensures.stepped (ok_true c.step-done.result c.in-Ok-true.field-0 c.in-Ok-true.is c.in-Ok-true.field-0-test) in
    let try_it = try_move answers so v c.args.now (g.met.S.Disk.sound c.args.site.now) c.requires.work c.requires.now in
    let engine : IsEngine w mid = record { ready = c.step-done.ensures.ready; history = c.law.ensures.history; put = c.law.ensures.put } in
    moved_then answers (IsMove v.history c.args.now) so v try_it (Ok tt) mid (g.S.Disk.view c.say_last.new.site) (g.S.Disk.view c.put_first.new.site) w c.put_first.new.engine is engine
    c.in-Ok.ensures.did c.in-Ok-put_first.ensures.did

pub returns-in-Err-put_first-clause-did : goal.returns-in-Err-put_first-clause-did
returns-in-Err-put_first-clause-did g c answers =
    let so = g.S.Disk.view c.args.site.now in
    let mid = g.S.Disk.view c.step-done.new.site in
    let v = c.args.engine.now in
    let w = c.step-done.new.self in
    let is = c.step-done.ensures.stepped (ok_true c.step-done.result c.in-Ok-true.field-0 c.in-Ok-true.is c.in-Ok-true.field-0-test) in
    let try_it = try_move answers so v c.args.now (g.met.S.Disk.sound c.args.site.now) c.requires.work c.requires.now in
    let engine : IsEngine w mid = record { ready = c.step-done.ensures.ready; history = c.law.ensures.history; put = c.law.ensures.put } in
    moved_then answers (IsMove v.history c.args.now) so v try_it (Err c.in-Err-put_first.error) mid (g.S.Disk.view c.say_last.new.site) (g.S.Disk.view c.put_first.new.site) w c.put_first.new.engine is engine
    c.in-Ok.ensures.did c.in-Err-put_first.ensures.did

pub returns-in-Err-say_last-clause-did : goal.returns-in-Err-say_last-clause-did
returns-in-Err-say_last-clause-did g c answers =
    let so = g.S.Disk.view c.args.site.now in
    let mid = g.S.Disk.view c.step-done.new.site in
    let v = c.args.engine.now in
    let w = c.step-done.new.self in
    let is = c.step-done.ensures.stepped (ok_true c.step-done.result c.in-Ok-true.field-0 c.in-Ok-true.is c.in-Ok-true.field-0-test) in
    let try_it = try_move answers so v c.args.now (g.met.S.Disk.sound c.args.site.now) c.requires.work c.requires.now in
    let engine : IsEngine w mid = record { ready = c.step-done.ensures.ready; history = c.law.ensures.history; put = c.law.ensures.put } in
    appended_then answers (IsMove v.history c.args.now) so v try_it (Err c.in-Err-say_last.error) mid (g.S.Disk.view c.say_last.new.site) w w is engine c.in-Err-say_last.ensures.did

pub returns-in-Err-clause-did : goal.returns-in-Err-clause-did
returns-in-Err-clause-did g c answers =
    let so = g.S.Disk.view c.args.site.now in
    let mid = g.S.Disk.view c.step-done.new.site in
    let v = c.args.engine.now in
    let w = c.step-done.new.self in
    let try_it = try_move answers so v c.args.now (g.met.S.Disk.sound c.args.site.now) c.requires.work c.requires.now in
    let engine : IsEngine w mid = record { ready = c.step-done.ensures.ready; history = c.law.ensures.history; put = c.law.ensures.put } in
    refused_so answers (IsMove v.history c.args.now) so v try_it mid w c.in-Err.error c.of_append.result c.of_append.ensures c.requires.work.up.has_file.whole engine c.in-Err.ensures.refused

pub returns-in-Ok-put_first-clause-filters : goal.returns-in-Ok-put_first-clause-filters
returns-in-Ok-put_first-clause-filters g c =
    let so = g.S.Disk.view c.args.site.now in
    let mid = g.S.Disk.view c.step-done.new.site in
    let said = g.S.Disk.view c.say_last.new.site in
    let is = c.step-done.ensures.stepped (c.in-Ok-true.is ∙ ap Ok c.in-Ok-true.field-0-test) in
    keeps_then so mid (g.S.Disk.view c.put_first.new.site) (filters_beside _ so mid is.adds.offers.file) (keeps_then mid said (g.S.Disk.view c.put_first.new.site) c.in-Ok.ensures.filters c.in-Ok-put_first.ensures.filters)
