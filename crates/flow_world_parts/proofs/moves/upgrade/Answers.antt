use Rattle.run_records.specs.declared.record.Record.TheVariants as entry
use Rattle.flow_world_steps.specs.HistoryCalls.{Is}
use Rattle.flow_world_parts.proofs.MoveSteps.{appended_then, refused_so, try_upgrade}
use Rattle.flow_world_parts.proofs.moves.upgrade.Goals as goal
use Rattle.flow_world_parts.proofs.Standing.{filters_beside, keeps_if}

pub returns-in-Ok-clause-did : goal.returns-in-Ok-clause-did
returns-in-Ok-clause-did g c answers due =
    let so = g.S.Disk.view c.args.site.now in
    let v = c.args.engine.now in
    let w = c.upgrade-done.new.self in
    appended_then answers (Is (entry.Upgrade 2 c.args.now)) so v (try_upgrade answers so v c.args.now due c.requires.now) c.say_last.result
    (g.S.Disk.view c.upgrade-done.new.site) (g.S.Disk.view c.say_last.new.site) w w c.in-Ok.ensures.ok
    (record { ready = c.upgrade-done.ensures.ready; history = c.law.ensures.history; put = c.law.ensures.put }) c.say_last.ensures.did

pub returns-in-Err-clause-did : goal.returns-in-Err-clause-did
returns-in-Err-clause-did g c answers due =
    let so = g.S.Disk.view c.args.site.now in
    let v = c.args.engine.now in
    refused_so answers (Is (entry.Upgrade 2 c.args.now)) so v (try_upgrade answers so v c.args.now due c.requires.now)
    (g.S.Disk.view c.upgrade-done.new.site) c.upgrade-done.new.self c.in-Err.error c.of_append.result c.of_append.ensures c.requires.work.up.has_file.whole
    (record { ready = c.upgrade-done.ensures.ready; history = c.law.ensures.history; put = c.law.ensures.put }) c.in-Err.ensures.refused

pub returns-in-Ok-clause-filters : goal.returns-in-Ok-clause-filters
returns-in-Ok-clause-filters g c =
    let so = g.S.Disk.view c.args.site.now in
    let mid = g.S.Disk.view c.upgrade-done.new.site in
    keeps_if c.say_last.result so mid (g.S.Disk.view c.say_last.new.site) (filters_beside _ so mid c.in-Ok.ensures.ok.adds.offers.file) c.say_last.ensures.filters
