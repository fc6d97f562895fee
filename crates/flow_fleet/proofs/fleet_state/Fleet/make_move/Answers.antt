use Rattle.std.proofs.Common.{◌≡◌, ℕ, ◌-◌, length, refl, sym, ◌∙◌, ap, arith}
use Rattle.flow_fleet_steps.specs.Turns.{turn_after}
use Rattle.flow_world_steps.specs.Worlds.{looked, rests}
use Rattle.flow_fleet.specs.Leads.{MayMove, next_turn}
use Rattle.flow_fleet.proofs.FleetLemmas.{between_after, run_goes, run_refuses}
use Rattle.flow_fleet.proofs.Places.{low_place}
use Rattle.flow_fleet.proofs.RecordLemmas.{at_work, its_move, its_run, may_move, turn_low, turn_within}
use Rattle.flow_fleet.proofs.fleet_state.Fleet.make_move.Goals as goal

pub behind-turn-requires : goal.behind-turn-requires
behind-turn-requires g c =
    let s = c.args.self.now in
    let few = c.requires.between.works.few in
    let lt = turn_within s.engines.items s.turn s.now c.args.place c.requires.turn in
    record { few = omega (arith, few, c.len.ensures, s.engines.ok.0); here = omega (arith, lt, c.len.ensures, s.engines.ok.0) }

pub index_mut-requires : goal.index_mut-requires
index_mut-requires g c =
    let s = c.args.self.now in
    let lt = turn_within s.engines.items s.turn s.now c.args.place c.requires.turn in
    omega (arith, lt, s.engines.ok.0)

pub make_move-requires : goal.make_move-requires
make_move-requires g c =
    let s = c.args.self.now in
    let so = g.R.Disk.view c.args.rack.now in
    let place = c.args.place in
    let v = c.index_mut.result.now in
    let there = its_run s.engines.items place v (turn_within s.engines.items s.turn s.now place c.requires.turn) c.index_mut.ensures.value in
    record {
      place = low_place s.engines.items place v c.requires.between.works.few there;
      work = at_work so s place v there c.requires.between;
      now = c.requires.between.works.now;
      put = (c.requires.between.settled place v there).put;
      moves = its_move so s place v there c.requires.turn;
    }

pub returns-in-Ok-clause-did : goal.returns-in-Ok-clause-did
returns-in-Ok-clause-did g c =
    let s = c.args.self.now in
    let so = g.R.Disk.view c.args.rack.now in
    let sn = g.R.Disk.view c.make_move.new.rack in
    let place = c.args.place in
    let v = c.index_mut.result.now in
    let there = its_run s.engines.items place v (turn_within s.engines.items s.turn s.now place c.requires.turn) c.index_mut.ensures.value in
    let many : length s.engines.items ≡ c.len.result = omega (arith, c.len.ensures, s.engines.ok.0) in
    run_goes (MayMove place) place so sn s v looked there (may_move so s (g.met.R.Disk.sound c.args.rack.now) c.requires.between c.requires.goes c.requires.some place c.requires.turn)
    1 (next_turn place) c.make_move.new.engine rests _ c.in-Ok.ensures.did refl refl (omega (arith, c.requires.some)) (λ own notes k counts. ap (λ (n : ℕ). turn_after n place) many ∙ sym c.behind-turn.ensures) refl

pub returns-in-Ok-clause-between : goal.returns-in-Ok-clause-between
returns-in-Ok-clause-between g c =
    let s = c.args.self.now in
    let so = g.R.Disk.view c.args.rack.now in
    let sn = g.R.Disk.view c.make_move.new.rack in
    let place = c.args.place in
    let v = c.index_mut.result.now in
    let lt = turn_within s.engines.items s.turn s.now place c.requires.turn in
    let there = its_run s.engines.items place v lt c.index_mut.ensures.value in
    let many : length s.engines.items ≡ c.len.result = omega (arith, c.len.ensures, s.engines.ok.0) in
    let turn = turn_low c.len.result place (omega (arith, lt, many)) in
    between_after place so sn s _ v c.make_move.new.engine there c.in-Ok.ensures.rest c.in-Ok.ensures.work refl refl refl (omega (arith, turn, c.behind-turn.ensures, many)) c.requires.between c.in-Ok.ensures.put refl

pub returns-in-Err-clause-did : goal.returns-in-Err-clause-did
returns-in-Err-clause-did g c =
    let s = c.args.self.now in
    let so = g.R.Disk.view c.args.rack.now in
    let sn = g.R.Disk.view c.make_move.new.rack in
    let place = c.args.place in
    let v = c.index_mut.result.now in
    let there = its_run s.engines.items place v (turn_within s.engines.items s.turn s.now place c.requires.turn) c.index_mut.ensures.value in
    run_refuses (MayMove place) place so sn s v looked there (may_move so s (g.met.R.Disk.sound c.args.rack.now) c.requires.between c.requires.goes c.requires.some place c.requires.turn)
    c.in-Err.error c.in-Err.ensures.did
