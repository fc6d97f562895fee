use Rattle.run_records.specs.declared.record.Record.TheVariants as entry
use Rattle.flow_world_steps.specs.HistoryCalls.{Is}
use Rattle.flow_world_steps.proofs.AllPuts.{put_after_told}
use Rattle.flow_world_parts.proofs.MoveSteps.{appended_then, on_ok, refused_so, try_told}
use Rattle.flow_world_parts.proofs.moves.tell_issue.Goals as goal
use Rattle.flow_world_parts.proofs.Standing.{filters_beside, keeps_if}

pub returns-in-Ok-clause-did : goal.returns-in-Ok-clause-did
returns-in-Ok-clause-did g c answers to_be =
    let so = g.S.Disk.view c.args.site.now in
    let v = c.args.engine.now in
    let told = c.args.told.now in
    let w = c.told-done.new.self in
    appended_then answers (Is (entry.Told told.issue c.args.now told.status told.text)) so v (try_told answers so v c.args.now told to_be c.requires.upgraded c.requires.now) c.say_last.result
    (g.S.Disk.view c.told-done.new.site) (g.S.Disk.view c.say_last.new.site) w w c.in-Ok.ensures.ok
    (record { ready = c.told-done.ensures.ready; history = c.law.ensures.history; put = c.law.ensures.put }) c.say_last.ensures.did

pub returns-in-Ok-clause-put : goal.returns-in-Ok-clause-put
returns-in-Ok-clause-put g c =
    on_ok c.say_last.result (put_after_told c.args.engine.now c.told-done.new.self c.args.told.now.issue c.args.now c.args.told.now.status c.args.told.now.text
    (g.S.Disk.view c.args.site.now) (g.S.Disk.view c.told-done.new.site) c.requires.work.up.has_file.engine.history c.law.ensures.put c.in-Ok.ensures.ok)

pub returns-in-Err-clause-did : goal.returns-in-Err-clause-did
returns-in-Err-clause-did g c answers to_be =
    let so = g.S.Disk.view c.args.site.now in
    let v = c.args.engine.now in
    let told = c.args.told.now in
    refused_so answers (Is (entry.Told told.issue c.args.now told.status told.text)) so v (try_told answers so v c.args.now told to_be c.requires.upgraded c.requires.now)
    (g.S.Disk.view c.told-done.new.site) c.told-done.new.self c.in-Err.error c.of_append.result c.of_append.ensures c.requires.work.up.has_file.whole
    (record { ready = c.told-done.ensures.ready; history = c.law.ensures.history; put = c.law.ensures.put }) c.in-Err.ensures.refused

pub returns-in-Ok-clause-filters : goal.returns-in-Ok-clause-filters
returns-in-Ok-clause-filters g c =
    let so = g.S.Disk.view c.args.site.now in
    let mid = g.S.Disk.view c.told-done.new.site in
    keeps_if c.say_last.result so mid (g.S.Disk.view c.say_last.new.site) (filters_beside _ so mid c.in-Ok.ensures.ok.adds.offers.file) c.say_last.ensures.filters
