use Rattle.std.proofs.Common.{◌<◌, drop, length, take, arith}
use Rattle.flow_engine_history.proofs.OpenLemmas.{first_entry, first_replayed, refused_first, replayed_by_seen}
use Rattle.flow_engine_history.proofs.opening.replay.Goals as goal

pub replay_others-requires-clause-begun : goal.replay_others-requires-clause-begun
replay_others-requires-clause-begun c =
    let items = c.args.journal.now.items in
    let some : 0 < length items = omega arith in
    replayed_by_seen c.args.flow.now.seen.given c.args.run (take 1 items) c.begin.new.flow c.begin.new.stands.items
    (first_replayed c.args.flow.now.seen.given c.args.run items c.args.flow.now c.begin.new.flow c.args.stands.now.items c.begin.new.stands.items c.entry.result.now
    c.requires.count c.requires.blank c.requires.stands some c.entry.ensures c.in-Ok.ensures.ok)

pub returns-in-Err-clause-refused : goal.returns-in-Err-clause-refused
returns-in-Err-clause-refused c =
    let items = c.args.journal.now.items in
    let some : 0 < length items = omega arith in
    refused_first c.args.flow.now.seen.given c.args.run c.entry.result.now (drop 1 items) items c.in-Err.error (first_entry items c.entry.result.now some c.entry.ensures) c.in-Err.ensures.refused
