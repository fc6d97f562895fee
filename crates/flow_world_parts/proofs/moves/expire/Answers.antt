use Rattle.std.specs.Prelude.{Some}
use Rattle.run_records.specs.declared.record.Record.TheVariants as entry
use Rattle.flow_engine.proofs.OverdueLemmas.{overdue_due, overdue_put}
use Rattle.flow_world_steps.specs.HistoryCalls.{Is}
use Rattle.flow_world_steps.proofs.AllPuts.{put_after_expire}
use Rattle.flow_world_parts.proofs.MoveSteps.{appended_then, on_ok, refused_so, try_expire}
use Rattle.flow_world_parts.proofs.moves.expire.Goals as goal
use Rattle.flow_world_parts.proofs.Standing.{filters_beside, keeps_if}

pub expire-done-requires-clause-put : goal.expire-done-requires-clause-put
expire-done-requires-clause-put g c = overdue_put c.args.engine.now c.args.now (Some c.args.issue) c.requires.overdue

pub expire-done-requires-clause-due : goal.expire-done-requires-clause-due
expire-done-requires-clause-due g c = overdue_due c.args.engine.now c.args.now (Some c.args.issue) c.requires.overdue

pub returns-in-Ok-clause-did : goal.returns-in-Ok-clause-did
returns-in-Ok-clause-did g c answers untold =
    let so = g.S.Disk.view c.args.site.now in
    let v = c.args.engine.now in
    let w = c.expire-done.new.self in
    appended_then answers (Is (entry.Expire c.args.issue c.args.now)) so v (try_expire answers so v c.args.issue c.args.now untold c.requires.overdue c.requires.now) c.say_last.result
    (g.S.Disk.view c.expire-done.new.site) (g.S.Disk.view c.say_last.new.site) w w c.in-Ok.ensures.ok
    (record { ready = c.expire-done.ensures.ready; history = c.law.ensures.history; put = c.law.ensures.put }) c.say_last.ensures.did

pub returns-in-Ok-clause-put : goal.returns-in-Ok-clause-put
returns-in-Ok-clause-put g c =
    on_ok c.say_last.result (put_after_expire c.args.engine.now c.expire-done.new.self c.args.issue c.args.now (g.S.Disk.view c.args.site.now) (g.S.Disk.view c.expire-done.new.site)
    c.requires.work.up.has_file.engine.history c.law.ensures.put c.in-Ok.ensures.ok)

pub returns-in-Err-clause-did : goal.returns-in-Err-clause-did
returns-in-Err-clause-did g c answers untold =
    let so = g.S.Disk.view c.args.site.now in
    let v = c.args.engine.now in
    refused_so answers (Is (entry.Expire c.args.issue c.args.now)) so v (try_expire answers so v c.args.issue c.args.now untold c.requires.overdue c.requires.now)
    (g.S.Disk.view c.expire-done.new.site) c.expire-done.new.self c.in-Err.error c.of_append.result c.of_append.ensures c.requires.work.up.has_file.whole
    (record { ready = c.expire-done.ensures.ready; history = c.law.ensures.history; put = c.law.ensures.put }) c.in-Err.ensures.refused

pub returns-in-Ok-clause-filters : goal.returns-in-Ok-clause-filters
returns-in-Ok-clause-filters g c =
    let so = g.S.Disk.view c.args.site.now in
    let mid = g.S.Disk.view c.expire-done.new.site in
    keeps_if c.say_last.result so mid (g.S.Disk.view c.say_last.new.site) (filters_beside _ so mid c.in-Ok.ensures.ok.adds.offers.file) c.say_last.ensures.filters
