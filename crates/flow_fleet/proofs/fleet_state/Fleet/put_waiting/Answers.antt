use Rattle.std.proofs.Common.{refl}
use Rattle.flow_world_steps.specs.Worlds.{rests}
use Rattle.flow_fleet.specs.Leads.{Below}
use Rattle.flow_fleet.proofs.Places.{low_place}
use Rattle.flow_fleet.proofs.RecordLemmas.{at_work_begun, begun_so, did_so, its_run, may_put}
use Rattle.flow_fleet.proofs.fleet_state.Fleet.put_waiting.Goals as goal

pub put_waiting-requires : goal.put_waiting-requires
put_waiting-requires g c =
    let s = c.args.self.now in
    let so = g.R.Disk.view c.args.rack.now in
    let place = c.args.place in
    let v = c.index_mut.result.now in
    let works = c.requires.works in
    let there = its_run s.engines.items place v c.requires.here c.index_mut.ensures.value in
    record {
      place = low_place s.engines.items place v works.few there;
      work = at_work_begun so s place v there works (c.requires.begun v there);
      now = works.now;
      none = c.requires.puts v there;
    }

pub returns-clause-did : goal.returns-clause-did
returns-clause-did g c =
    let s = c.args.self.now in
    let so = g.R.Disk.view c.args.rack.now in
    let sn = g.R.Disk.view c.put_waiting.new.rack in
    let place = c.args.place in
    let v = c.index_mut.result.now in
    let there = its_run s.engines.items place v c.requires.here c.index_mut.ensures.value in
    did_so so sn s _ place v c.put_waiting.new.engine there refl refl refl refl refl c.put_waiting.result (Below place) rests (may_put so s place c.requires.works c.requires.settled rests) c.put_waiting.ensures.did

pub returns-clause-begun : goal.returns-clause-begun
returns-clause-begun g c =
    let s = c.args.self.now in
    let so = g.R.Disk.view c.args.rack.now in
    let sn = g.R.Disk.view c.put_waiting.new.rack in
    let place = c.args.place in
    let v = c.index_mut.result.now in
    let there = its_run s.engines.items place v c.requires.here c.index_mut.ensures.value in
    begun_so so sn s _ place v c.put_waiting.new.engine there refl refl refl refl refl refl c.put_waiting.result c.put_waiting.ensures.put c.put_waiting.ensures.work c.put_waiting.ensures.rest
    c.requires.works c.requires.settled
