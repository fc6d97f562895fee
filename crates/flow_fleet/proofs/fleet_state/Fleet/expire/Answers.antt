use Rattle.std.proofs.Common.{◌-◌, refl, arith}
use Rattle.flow_world_steps.specs.Worlds.{looked, rests}
use Rattle.flow_fleet.specs.Leads.{MayExpire, same_turn}
use Rattle.flow_fleet.proofs.FleetLemmas.{between_after, run_goes, run_refuses}
use Rattle.flow_fleet.proofs.Places.{low_place}
use Rattle.flow_fleet.proofs.RecordLemmas.{at_work, its_overdue, its_run, may_expire, overdue_within}
use Rattle.flow_fleet.proofs.fleet_state.Fleet.expire.Goals as goal

pub index_mut-requires : goal.index_mut-requires
index_mut-requires g c =
    let s = c.args.self.now in
    let lt = overdue_within s.engines.items s.now c.args.place c.requires.overdue in
    omega (arith, lt, s.engines.ok.0)

pub expire-requires : goal.expire-requires
expire-requires g c =
    let s = c.args.self.now in
    let so = g.R.Disk.view c.args.rack.now in
    let place = c.args.place in
    let v = c.index_mut.result.now in
    let there = its_run s.engines.items place v (overdue_within s.engines.items s.now place c.requires.overdue) c.index_mut.ensures.value in
    record {
      place = low_place s.engines.items place v c.requires.between.works.few there;
      work = at_work so s place v there c.requires.between;
      now = c.requires.between.works.now;
      put = (c.requires.between.settled place v there).put;
      overdue = its_overdue so s place v there c.requires.overdue;
    }

pub returns-in-Ok-clause-did : goal.returns-in-Ok-clause-did
returns-in-Ok-clause-did g c =
    let s = c.args.self.now in
    let so = g.R.Disk.view c.args.rack.now in
    let sn = g.R.Disk.view c.expire.new.rack in
    let place = c.args.place in
    let v = c.index_mut.result.now in
    let there = its_run s.engines.items place v (overdue_within s.engines.items s.now place c.requires.overdue) c.index_mut.ensures.value in
    run_goes (MayExpire place) place so sn s v looked there
    (may_expire so s (g.met.R.Disk.sound c.args.rack.now) c.requires.between c.requires.goes c.requires.some place c.requires.idle c.requires.overdue)
    1 same_turn c.expire.new.engine rests _ c.in-Ok.ensures.did refl refl (omega (arith, c.requires.some)) (λ own notes k counts. counts.turn) refl

pub returns-in-Ok-clause-between : goal.returns-in-Ok-clause-between
returns-in-Ok-clause-between g c =
    let s = c.args.self.now in
    let so = g.R.Disk.view c.args.rack.now in
    let sn = g.R.Disk.view c.expire.new.rack in
    let place = c.args.place in
    let v = c.index_mut.result.now in
    let there = its_run s.engines.items place v (overdue_within s.engines.items s.now place c.requires.overdue) c.index_mut.ensures.value in
    between_after place so sn s _ v c.expire.new.engine there c.in-Ok.ensures.rest c.in-Ok.ensures.work refl refl refl c.requires.between.works.turn c.requires.between c.in-Ok.ensures.put refl

pub returns-in-Err-clause-did : goal.returns-in-Err-clause-did
returns-in-Err-clause-did g c =
    let s = c.args.self.now in
    let so = g.R.Disk.view c.args.rack.now in
    let sn = g.R.Disk.view c.expire.new.rack in
    let place = c.args.place in
    let v = c.index_mut.result.now in
    let there = its_run s.engines.items place v (overdue_within s.engines.items s.now place c.requires.overdue) c.index_mut.ensures.value in
    run_refuses (MayExpire place) place so sn s v looked there
    (may_expire so s (g.met.R.Disk.sound c.args.rack.now) c.requires.between c.requires.goes c.requires.some place c.requires.idle c.requires.overdue) c.in-Err.error c.in-Err.ensures.did
