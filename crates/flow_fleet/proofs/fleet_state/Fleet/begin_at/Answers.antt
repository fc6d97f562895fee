use Rattle.flow_fleet.proofs.LoopLemmas.{has_begun_at, is_empty_at, read_at}
use Rattle.flow_fleet.proofs.TurnLemmas.{begin_to_come}
use Rattle.flow_fleet.proofs.fleet_state.Fleet.begin_at.Goals as goal

pub put_waiting-requires-clause-begun : goal.put_waiting-requires-clause-begun
put_waiting-requires-clause-begun g c =
    has_begun_at c.args.self.now.engines.items c.args.place c.count.result c.index.result.now (read_at c.args.self.now.engines.items c.args.place c.index.result.now c.requires.here c.index.ensures) c.count.ensures c.if-count-ne0.true

pub begin-requires-clause-empty : goal.begin-requires-clause-empty
begin-requires-clause-empty g c =
    is_empty_at c.args.self.now.engines.items c.args.place c.count.result c.index.result.now (read_at c.args.self.now.engines.items c.args.place c.index.result.now c.requires.here c.index.ensures) c.count.ensures c.if-count-ne0.false

pub returns-then-self-eq0-clause-turned : goal.returns-then-self-eq0-clause-turned
returns-then-self-eq0-clause-turned g c =
    let s = c.args.self.now in
    let there = read_at s.engines.items c.args.place c.index.result.now c.requires.here c.index.ensures in
    begin_to_come (g.R.Disk.view c.args.rack.now) s c.args.place c.index.result.now there (is_empty_at s.engines.items c.args.place c.count.result c.index.result.now there c.count.ensures c.if-count-ne0.false c.index.result.now there)
    c.requires.settled c.requires.calm c.if-self-eq0.true
