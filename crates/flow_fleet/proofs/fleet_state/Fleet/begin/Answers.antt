use Rattle.std.proofs.Common.{◌-◌, refl, arith}
use Rattle.flow_world_steps.specs.Worlds.{rests}
use Rattle.flow_fleet.specs.Leads.{MayAppend, same_turn}
use Rattle.flow_fleet.proofs.FleetLemmas.{begun_after, run_goes, run_refuses}
use Rattle.flow_fleet.proofs.Places.{low_place}
use Rattle.flow_fleet.proofs.RecordLemmas.{its_run, may_append, not_before, not_late}
use Rattle.flow_fleet.proofs.fleet_state.Fleet.begin.Goals as goal

pub begin_run-requires : goal.begin_run-requires
begin_run-requires g c =
    let s = c.args.self.now in
    let so = g.R.Disk.view c.args.rack.now in
    let place = c.args.place in
    let v = c.index_mut.result.now in
    let works = c.requires.works in
    let there = its_run s.engines.items place v c.requires.here c.index_mut.ensures.value in
    record {
      place = low_place s.engines.items place v works.few there;
      empty = c.requires.empty v there;
      whole = works.stands place v there;
      now = works.now;
      later = not_before so s place v there works;
      in_time = not_late so s place v there works;
      none = c.requires.puts v there;
    }

pub returns-in-Ok-clause-did : goal.returns-in-Ok-clause-did
returns-in-Ok-clause-did g c =
    let s = c.args.self.now in
    let so = g.R.Disk.view c.args.rack.now in
    let sn = g.R.Disk.view c.begin_run.new.rack in
    let place = c.args.place in
    let v = c.index_mut.result.now in
    let there = its_run s.engines.items place v c.requires.here c.index_mut.ensures.value in
    run_goes (MayAppend place) place so sn s v rests there (may_append so s place c.requires.works c.requires.settled c.requires.some rests) 1 same_turn c.begin_run.new.engine rests _
    c.in-Ok.ensures.did refl refl (omega (arith, c.requires.some)) (λ own notes k counts. counts.turn) refl

pub returns-in-Ok-clause-begun : goal.returns-in-Ok-clause-begun
returns-in-Ok-clause-begun g c =
    let s = c.args.self.now in
    let so = g.R.Disk.view c.args.rack.now in
    let sn = g.R.Disk.view c.begin_run.new.rack in
    let place = c.args.place in
    let v = c.index_mut.result.now in
    let there = its_run s.engines.items place v c.requires.here c.index_mut.ensures.value in
    begun_after place so sn s _ v c.begin_run.new.engine there c.in-Ok.ensures.rest c.in-Ok.ensures.work refl refl refl c.requires.works.turn c.requires.works c.in-Ok.ensures.put c.requires.settled refl

pub returns-in-Err-clause-did : goal.returns-in-Err-clause-did
returns-in-Err-clause-did g c =
    let s = c.args.self.now in
    let so = g.R.Disk.view c.args.rack.now in
    let sn = g.R.Disk.view c.begin_run.new.rack in
    let place = c.args.place in
    let v = c.index_mut.result.now in
    let there = its_run s.engines.items place v c.requires.here c.index_mut.ensures.value in
    run_refuses (MayAppend place) place so sn s v rests there (may_append so s place c.requires.works c.requires.settled c.requires.some rests) c.in-Err.error c.in-Err.ensures.did
