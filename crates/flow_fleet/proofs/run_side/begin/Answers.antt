use Rattle.std.proofs.Common.{ℕ, subst, sym, refl}
use Rattle.flow_engine.specs.EngineCalls.{Appends, IsBeginning, Refused}
use Rattle.flow_world_steps.specs.Worlds.{rests}
use Rattle.flow_world_parts.proofs.EngineSide.{engine_is}
use Rattle.flow_fleet_laws.specs.Views.{seen_from}
use Rattle.flow_fleet_steps.specs.declared.error.FleetError.{FleetError}
use Rattle.flow_fleet.specs.Leads.{LeavesRest, MayAppend, RunRefuses, same_turn}
use Rattle.flow_fleet.proofs.Places.{rest_only, rest_then}
use Rattle.flow_fleet.proofs.RunCalls.{appended_then, try_begin}
use Rattle.flow_fleet.proofs.RunSteps.{not_appended}
use Rattle.flow_fleet.proofs.Unnamed.{ok_map}
use Rattle.flow_world_parts.proofs.MoveSteps.{on_ok}
use Rattle.flow_fleet.proofs.RunWork.{begun_puts, begun_work}
use Rattle.flow_fleet.proofs.run_side.begin.Goals as goal

pub returns-in-Ok-clause-did : goal.returns-in-Ok-clause-did
returns-in-Ok-clause-did g c =
    let so = g.R.Disk.view c.args.rack.now in
    let place = c.args.place in
    let v = c.args.engine.now in
    let mid = g.R.Disk.view c.start_at-done.new.rack in
    let w = c.start_at-done.new.engine in
    let sn = g.R.Disk.view c.say_last.new.rack in
    appended_then (MayAppend place) place (λ x given. given.0) (λ x given. given.1) (IsBeginning v.history so.clock.now) same_turn so v rests
    (try_begin place so v (g.met.R.Disk.sound c.args.rack.now) c.requires.whole c.requires.empty)
    mid w (subst (λ (n : ℕ). Appends v w (IsBeginning v.history n) (seen_from place so) (seen_from place mid)) c.requires.now c.in-Ok.ensures.ok)
    (engine_is w (seen_from place mid) c.start_at-done.ensures.ready c.law.ensures.history c.law.ensures.put) c.say_last.result sn w c.say_last.ensures.did

pub returns-in-Ok-clause-rest : goal.returns-in-Ok-clause-rest
returns-in-Ok-clause-rest g c =
    let so = g.R.Disk.view c.args.rack.now in
    let place = c.args.place in
    let v = c.args.engine.now in
    let mid = g.R.Disk.view c.start_at-done.new.rack in
    let w = c.start_at-done.new.engine in
    let sn = g.R.Disk.view c.say_last.new.rack in
    ok_map (LeavesRest place mid sn) (LeavesRest place so sn) c.say_last.result (rest_then place so mid sn (rest_only place _ so mid c.in-Ok.ensures.ok.adds.offers.file)) c.say_last.ensures.rest

pub returns-in-Err-clause-did : goal.returns-in-Err-clause-did
returns-in-Err-clause-did g c =
    let so = g.R.Disk.view c.args.rack.now in
    let place = c.args.place in
    let v = c.args.engine.now in
    let mid = g.R.Disk.view c.start_at-done.new.rack in
    let w = c.start_at-done.new.engine in
    subst (λ (e : FleetError). RunRefuses (MayAppend place) e place so v rests mid) (sym c.of_engine.ensures)
    (not_appended (MayAppend place) (λ x given. given.1) (IsBeginning v.history so.clock.now) same_turn place so v rests
    (try_begin place so v (g.met.R.Disk.sound c.args.rack.now) c.requires.whole c.requires.empty)
    mid w c.in-Err.error tt refl c.requires.whole.whole (engine_is w (seen_from place mid) c.start_at-done.ensures.ready c.law.ensures.history c.law.ensures.put)
    (subst (λ (n : ℕ). Refused v w (IsBeginning v.history n) c.in-Err.error (seen_from place so) (seen_from place mid)) c.requires.now c.in-Err.ensures.refused))

pub say_last-requires : goal.say_last-requires
say_last-requires g c = record {
  work = begun_work c.args.place c.args.now (g.R.Disk.view c.args.rack.now) (g.R.Disk.view c.start_at-done.new.rack) c.args.engine.now c.start_at-done.new.engine c.in-Ok.ensures.ok c.requires.now c.requires.in_time
      (engine_is c.start_at-done.new.engine (seen_from c.args.place (g.R.Disk.view c.start_at-done.new.rack)) c.start_at-done.ensures.ready c.law.ensures.history c.law.ensures.put);
}

pub returns-in-Ok-clause-puts : goal.returns-in-Ok-clause-puts
returns-in-Ok-clause-puts g c =
    on_ok c.say_last.result
    (begun_puts c.args.place c.args.now (g.R.Disk.view c.args.rack.now) (g.R.Disk.view c.start_at-done.new.rack) c.args.engine.now c.start_at-done.new.engine c.in-Ok.ensures.ok)
