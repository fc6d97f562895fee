use Rattle.std.proofs.Common.{ℕ, subst, sym, refl}
use Rattle.std.specs.Prelude.{Some}
use Rattle.run_records.specs.declared.record.Record.TheVariants as entry
use Rattle.base_dues.specs.Pairs.{IsFirstBy}
use Rattle.flow_engine_history.specs.HistoryCalls.{Is}
use Rattle.flow_engine.specs.EngineCalls.{Appends, Refused, put_deadline}
use Rattle.flow_world_steps.specs.Worlds.{looked}
use Rattle.flow_world_steps.proofs.AllPuts.{put_after_expire}
use Rattle.flow_world_parts.proofs.EngineSide.{engine_is}
use Rattle.flow_world_parts.proofs.MoveSteps.{on_ok}
use Rattle.flow_fleet_laws.specs.Views.{seen_from}
use Rattle.flow_fleet_steps.specs.declared.error.FleetError.{FleetError}
use Rattle.flow_fleet.specs.Leads.{LeavesRest, MayExpire, RunRefuses, same_turn}
use Rattle.flow_fleet.proofs.Places.{rest_only, rest_then}
use Rattle.flow_fleet.proofs.RunCalls.{appended_then, try_expire, under_expire}
use Rattle.flow_fleet.proofs.RunSteps.{not_appended}
use Rattle.flow_fleet.proofs.Unnamed.{ok_map}
use Rattle.flow_fleet.proofs.RunWork.{expired_work}
use Rattle.flow_fleet.proofs.run_side.expire.Goals as goal

pub returns-in-Ok-clause-did : goal.returns-in-Ok-clause-did
returns-in-Ok-clause-did g c =
    let so = g.R.Disk.view c.args.rack.now in
    let place = c.args.place in
    let v = c.args.engine.now in
    let mid = g.R.Disk.view c.expire_at-done.new.rack in
    let w = c.expire_at-done.new.engine in
    let is : Appends v w (Is (entry.Expire c.in-Some.issue so.clock.now)) (seen_from place so) (seen_from place mid) =
    subst (λ (n : ℕ). Appends v w (Is (entry.Expire c.in-Some.issue n)) (seen_from place so) (seen_from place mid)) c.requires.now c.in-Ok.ensures.ok in
    appended_then (MayExpire place) place (under_expire place) (λ y given. given.idle.has_looked.budget) (Is (entry.Expire c.in-Some.issue so.clock.now)) same_turn so v looked
    (try_expire place so v (g.met.R.Disk.sound c.args.rack.now) c.in-Some.issue c.requires.work (subst (λ (n : ℕ). IsFirstBy n (put_deadline v) (Some c.in-Some.issue)) c.requires.now c.in-Some.ensures.least))
    mid w is (engine_is w (seen_from place mid) c.expire_at-done.ensures.ready c.law.ensures.history c.law.ensures.put) c.say_last.result (g.R.Disk.view c.say_last.new.rack) w c.say_last.ensures.did

pub returns-in-Ok-clause-put : goal.returns-in-Ok-clause-put
returns-in-Ok-clause-put g c =
    let so = g.R.Disk.view c.args.rack.now in
    let place = c.args.place in
    let v = c.args.engine.now in
    let mid = g.R.Disk.view c.expire_at-done.new.rack in
    let w = c.expire_at-done.new.engine in
    let is : Appends v w (Is (entry.Expire c.in-Some.issue so.clock.now)) (seen_from place so) (seen_from place mid) =
    subst (λ (n : ℕ). Appends v w (Is (entry.Expire c.in-Some.issue n)) (seen_from place so) (seen_from place mid)) c.requires.now c.in-Ok.ensures.ok in
    on_ok c.say_last.result
    (put_after_expire v w c.in-Some.issue so.clock.now (seen_from place so) (seen_from place mid) c.requires.work.up.has_file.engine.history c.law.ensures.put is c.requires.put)

pub returns-in-Ok-clause-rest : goal.returns-in-Ok-clause-rest
returns-in-Ok-clause-rest g c =
    let so = g.R.Disk.view c.args.rack.now in
    let place = c.args.place in
    let v = c.args.engine.now in
    let mid = g.R.Disk.view c.expire_at-done.new.rack in
    let w = c.expire_at-done.new.engine in
    let sn = g.R.Disk.view c.say_last.new.rack in
    ok_map (LeavesRest place mid sn) (LeavesRest place so sn) c.say_last.result (rest_then place so mid sn (rest_only place _ so mid c.in-Ok.ensures.ok.adds.offers.file)) c.say_last.ensures.rest

pub returns-in-Err-clause-did : goal.returns-in-Err-clause-did
returns-in-Err-clause-did g c =
    let so = g.R.Disk.view c.args.rack.now in
    let place = c.args.place in
    let v = c.args.engine.now in
    let mid = g.R.Disk.view c.expire_at-done.new.rack in
    let w = c.expire_at-done.new.engine in
    subst (λ (e : FleetError). RunRefuses (MayExpire place) e place so v looked mid) (sym c.of_engine.ensures)
    (not_appended (MayExpire place) (λ y given. given.idle.has_looked.budget) (Is (entry.Expire c.in-Some.issue so.clock.now)) same_turn place so v looked
    (try_expire place so v (g.met.R.Disk.sound c.args.rack.now) c.in-Some.issue c.requires.work (subst (λ (n : ℕ). IsFirstBy n (put_deadline v) (Some c.in-Some.issue)) c.requires.now c.in-Some.ensures.least))
    mid w c.in-Err.error tt refl c.requires.work.up.has_file.whole (engine_is w (seen_from place mid) c.expire_at-done.ensures.ready c.law.ensures.history c.law.ensures.put)
    (subst (λ (n : ℕ). Refused v w (Is (entry.Expire c.in-Some.issue n)) c.in-Err.error (seen_from place so) (seen_from place mid)) c.requires.now c.in-Err.ensures.refused))

pub say_last-requires : goal.say_last-requires
say_last-requires g c = record {
  work = expired_work c.args.place c.in-Some.issue c.args.now (g.R.Disk.view c.args.rack.now) (g.R.Disk.view c.expire_at-done.new.rack) c.args.engine.now c.expire_at-done.new.engine c.requires.now c.in-Ok.ensures.ok c.requires.work
      (engine_is c.expire_at-done.new.engine (seen_from c.args.place (g.R.Disk.view c.expire_at-done.new.rack)) c.expire_at-done.ensures.ready c.law.ensures.history c.law.ensures.put);
}
