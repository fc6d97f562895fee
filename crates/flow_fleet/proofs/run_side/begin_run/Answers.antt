use Rattle.flow_world_steps.specs.Worlds.{rests}
use Rattle.flow_fleet.specs.Leads.{Below, LeavesRest, MayAppend, same_turn}
use Rattle.flow_fleet.proofs.Places.{below_after, rest_then}
use Rattle.flow_fleet.proofs.RunSteps.{did_then}
use Rattle.flow_fleet.proofs.Unnamed.{ok_map}
use Rattle.flow_fleet.proofs.run_side.begin_run.Goals as goal

pub returns-in-Ok-clause-did : goal.returns-in-Ok-clause-did
returns-in-Ok-clause-did g c =
    let so = g.R.Disk.view c.args.rack.now in
    let place = c.args.place in
    let v = c.args.engine.now in
    let mid = g.R.Disk.view c.begin.new.rack in
    let w = c.begin.new.engine in
    did_then (MayAppend place) (Below place) place so mid v w rests rests
    (λ engines own filters notes k there given own' notes' k' owed. below_after place so mid engines v w there given.0.few c.in-Ok.ensures.rest given.0 c.in-Ok.ensures.work.up.has_file)
    1 same_turn c.in-Ok.ensures.did c.put_waiting.result 0 (g.R.Disk.view c.put_waiting.new.rack) c.put_waiting.new.engine c.put_waiting.ensures.did

pub returns-in-Ok-clause-rest : goal.returns-in-Ok-clause-rest
returns-in-Ok-clause-rest g c =
    let so = g.R.Disk.view c.args.rack.now in
    let place = c.args.place in
    let v = c.args.engine.now in
    let mid = g.R.Disk.view c.begin.new.rack in
    let sn = g.R.Disk.view c.put_waiting.new.rack in
    ok_map (LeavesRest place mid sn) (LeavesRest place so sn) c.put_waiting.result (rest_then place so mid sn c.in-Ok.ensures.rest) c.put_waiting.ensures.rest
