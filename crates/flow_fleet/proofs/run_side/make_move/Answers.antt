use Rattle.std.proofs.Common.{ℕ, ◌≡◌, ◌+◌, ◌∙◌, subst, sym, refl}
use Rattle.std.specs.Prelude.{Err, ⊤}
use Rattle.flow_engine.specs.EngineCalls.{Appends, IsMove, Refused}
use Rattle.flow_world_steps.specs.Worlds.{looked}
use Rattle.flow_world_parts.proofs.EngineSide.{engine_is}
use Rattle.flow_fleet_laws.specs.Views.{seen_from}
use Rattle.flow_fleet_steps.specs.declared.error.FleetError.{FleetError}
use Rattle.flow_fleet.specs.Leads.{LeavesRest, MayMove, RunRefuses, next_turn}
use Rattle.flow_fleet.proofs.Places.{rest_only, rest_then}
use Rattle.flow_fleet.proofs.RunCalls.{appended_then, said_then, try_move, under_move}
use Rattle.flow_fleet.proofs.RunSteps.{not_appended}
use Rattle.flow_fleet.proofs.Unnamed.{ok_map, ok_three}
use Rattle.flow_engine.specs.OpenIssues.{puts_of}
use Rattle.flow_world_steps.specs.Sides.{AllPut}
use Rattle.flow_world_steps.proofs.Adding.{moves_now}
use Rattle.flow_world_parts.specs.Leads.{ArePutBelow}
use Rattle.flow_world_parts.proofs.MoveSteps.{at_work_after, below_after, issues_are, ok_true, put_then, unput_after}
use Rattle.flow_fleet.proofs.run_side.make_move.Goals as goal

pub say_last-requires : goal.say_last-requires
say_last-requires g c =
    let so = g.R.Disk.view c.args.rack.now in
    let place = c.args.place in
    let v = c.args.engine.now in
    let mid = g.R.Disk.view c.step_at-done.new.rack in
    let w = c.step_at-done.new.engine in
    let is : Appends v w (IsMove v.history so.clock.now) (seen_from place so) (seen_from place mid) =
    subst (λ (n : ℕ). Appends v w (IsMove v.history n) (seen_from place so) (seen_from place mid)) c.requires.now
    (c.step_at-done.ensures.stepped (ok_true c.step_at-done.result c.in-Ok-true.field-0 c.in-Ok-true.is c.in-Ok-true.field-0-test)) in
    record {
      work = at_work_after (IsMove v.history so.clock.now) (seen_from place so) (seen_from place mid) v w is c.requires.work (engine_is w (seen_from place mid) c.step_at-done.ensures.ready c.law.ensures.history c.law.ensures.put)
          (moves_now v.history so.clock.now is.adds.offers.comes.next is.adds.offers.comes.is);
    }

pub put_first-requires-clause-put : goal.put_first-requires-clause-put
put_first-requires-clause-put g c =
    let so = g.R.Disk.view c.args.rack.now in
    let place = c.args.place in
    let v = c.args.engine.now in
    let mid = g.R.Disk.view c.step_at-done.new.rack in
    let w = c.step_at-done.new.engine in
    let is : Appends v w (IsMove v.history so.clock.now) (seen_from place so) (seen_from place mid) =
    subst (λ (n : ℕ). Appends v w (IsMove v.history n) (seen_from place so) (seen_from place mid)) c.requires.now
    (c.step_at-done.ensures.stepped (ok_true c.step_at-done.result c.in-Ok-true.field-0 c.in-Ok-true.is c.in-Ok-true.field-0-test)) in
    let counted = issues_are v c.flow.result.now.seen c.issues-issues.result c.flow.ensures.seen c.issues-issues.ensures in
    below_after (IsMove v.history so.clock.now) (seen_from place so) (seen_from place mid) v w is c.issues-issues.result counted c.requires.work.up.has_file.engine.history c.law.ensures.put c.requires.put

pub put_first-requires-clause-unput : goal.put_first-requires-clause-unput
put_first-requires-clause-unput g c =
    let so = g.R.Disk.view c.args.rack.now in
    let place = c.args.place in
    let v = c.args.engine.now in
    let mid = g.R.Disk.view c.step_at-done.new.rack in
    let w = c.step_at-done.new.engine in
    let is : Appends v w (IsMove v.history so.clock.now) (seen_from place so) (seen_from place mid) =
    subst (λ (n : ℕ). Appends v w (IsMove v.history n) (seen_from place so) (seen_from place mid)) c.requires.now
    (c.step_at-done.ensures.stepped (ok_true c.step_at-done.result c.in-Ok-true.field-0 c.in-Ok-true.is c.in-Ok-true.field-0-test)) in
    let counted = issues_are v c.flow.result.now.seen c.issues-issues.result c.flow.ensures.seen c.issues-issues.ensures in
    unput_after (IsMove v.history so.clock.now) (seen_from place so) (seen_from place mid) v w is c.issues-issues.result counted c.requires.work.up.has_file.engine.put c.law.ensures.put

pub returns-in-Ok-clause-did : goal.returns-in-Ok-clause-did
returns-in-Ok-clause-did g c =
    let so = g.R.Disk.view c.args.rack.now in
    let place = c.args.place in
    let v = c.args.engine.now in
    let mid = g.R.Disk.view c.step_at-done.new.rack in
    let w = c.step_at-done.new.engine in
    let is : Appends v w (IsMove v.history so.clock.now) (seen_from place so) (seen_from place mid) =
    subst (λ (n : ℕ). Appends v w (IsMove v.history n) (seen_from place so) (seen_from place mid)) c.requires.now
    (c.step_at-done.ensures.stepped (ok_true c.step_at-done.result c.in-Ok-true.field-0 c.in-Ok-true.is c.in-Ok-true.field-0-test)) in
    let last = g.R.Disk.view c.say_last.new.rack in
    let sn = g.R.Disk.view c.put_first.new.rack in
    let x = c.put_first.new.engine in
    appended_then (MayMove place) place (under_move place) (λ y given. given.has_looked.budget) (IsMove v.history so.clock.now) (next_turn place) so v looked
    (try_move place so v (g.met.R.Disk.sound c.args.rack.now) c.requires.work) mid w is (engine_is w (seen_from place mid) c.step_at-done.ensures.ready c.law.ensures.history c.law.ensures.put) c.put_first.result sn x
    (said_then c.put_first.result place mid last sn w x c.in-Ok.ensures.rest c.in-Ok.ensures.work c.in-Ok.ensures.did c.put_first.ensures.did)

pub returns-in-Ok-clause-put : goal.returns-in-Ok-clause-put
returns-in-Ok-clause-put g c =
    let so = g.R.Disk.view c.args.rack.now in
    let place = c.args.place in
    let v = c.args.engine.now in
    let mid = g.R.Disk.view c.step_at-done.new.rack in
    let w = c.step_at-done.new.engine in
    let is : Appends v w (IsMove v.history so.clock.now) (seen_from place so) (seen_from place mid) =
    subst (λ (n : ℕ). Appends v w (IsMove v.history n) (seen_from place so) (seen_from place mid)) c.requires.now
    (c.step_at-done.ensures.stepped (ok_true c.step_at-done.result c.in-Ok-true.field-0 c.in-Ok-true.is c.in-Ok-true.field-0-test)) in
    let x = c.put_first.new.engine in
    let next = c.issues-issues.result in
    let counted = issues_are v c.flow.result.now.seen next c.flow.ensures.seen c.issues-issues.ensures in
    ok_three (x.history ≡ w.history) ((n : ℕ) → (n ≡ next → ⊥) → puts_of x.puts n ≡ puts_of w.puts n) (ArePutBelow (next + 1) x) (AllPut x) c.put_first.result
    (put_then (IsMove v.history so.clock.now) (seen_from place so) (seen_from place mid) v w is next counted x c.requires.work.up.has_file.engine.history c.law.ensures.put c.requires.put)
    c.put_first.ensures.history c.put_first.ensures.others c.put_first.ensures.put

pub returns-in-Ok-clause-rest : goal.returns-in-Ok-clause-rest
returns-in-Ok-clause-rest g c =
    let so = g.R.Disk.view c.args.rack.now in
    let place = c.args.place in
    let v = c.args.engine.now in
    let mid = g.R.Disk.view c.step_at-done.new.rack in
    let w = c.step_at-done.new.engine in
    let is : Appends v w (IsMove v.history so.clock.now) (seen_from place so) (seen_from place mid) =
    subst (λ (n : ℕ). Appends v w (IsMove v.history n) (seen_from place so) (seen_from place mid)) c.requires.now
    (c.step_at-done.ensures.stepped (ok_true c.step_at-done.result c.in-Ok-true.field-0 c.in-Ok-true.is c.in-Ok-true.field-0-test)) in
    let last = g.R.Disk.view c.say_last.new.rack in
    let sn = g.R.Disk.view c.put_first.new.rack in
    ok_map (LeavesRest place last sn) (LeavesRest place so sn) c.put_first.result
    (rest_then place so last sn (rest_then place so mid last (rest_only place _ so mid is.adds.offers.file) c.in-Ok.ensures.rest)) c.put_first.ensures.rest

pub returns-in-Err-say_last-clause-did : goal.returns-in-Err-say_last-clause-did
returns-in-Err-say_last-clause-did g c =
    let so = g.R.Disk.view c.args.rack.now in
    let place = c.args.place in
    let v = c.args.engine.now in
    let mid = g.R.Disk.view c.step_at-done.new.rack in
    let w = c.step_at-done.new.engine in
    let is : Appends v w (IsMove v.history so.clock.now) (seen_from place so) (seen_from place mid) =
    subst (λ (n : ℕ). Appends v w (IsMove v.history n) (seen_from place so) (seen_from place mid)) c.requires.now
    (c.step_at-done.ensures.stepped (ok_true c.step_at-done.result c.in-Ok-true.field-0 c.in-Ok-true.is c.in-Ok-true.field-0-test)) in
    appended_then (MayMove place) place (under_move place) (λ y given. given.has_looked.budget) (IsMove v.history so.clock.now) (next_turn place) so v looked
    (try_move place so v (g.met.R.Disk.sound c.args.rack.now) c.requires.work) mid w is (engine_is w (seen_from place mid) c.step_at-done.ensures.ready c.law.ensures.history c.law.ensures.put) {T = ⊤} (Err c.in-Err-say_last.error) (g.R.Disk.view c.say_last.new.rack) w c.in-Err-say_last.ensures.did

pub returns-in-Err-clause-did : goal.returns-in-Err-clause-did
returns-in-Err-clause-did g c =
    let so = g.R.Disk.view c.args.rack.now in
    let place = c.args.place in
    let v = c.args.engine.now in
    let mid = g.R.Disk.view c.step_at-done.new.rack in
    let w = c.step_at-done.new.engine in
    subst (λ (e : FleetError). RunRefuses (MayMove place) e place so v looked mid) (sym c.of_engine.ensures)
    (not_appended (MayMove place) (λ y given. given.has_looked.budget) (IsMove v.history so.clock.now) (next_turn place) place so v looked
    (try_move place so v (g.met.R.Disk.sound c.args.rack.now) c.requires.work)
    mid w c.in-Err.error tt refl c.requires.work.up.has_file.whole (engine_is w (seen_from place mid) c.step_at-done.ensures.ready c.law.ensures.history c.law.ensures.put)
    (subst (λ (n : ℕ). Refused v w (IsMove v.history n) c.in-Err.error (seen_from place so) (seen_from place mid)) c.requires.now c.in-Err.ensures.refused))

pub put_first-requires-clause-now : goal.put_first-requires-clause-now
put_first-requires-clause-now g c =
    let so = g.R.Disk.view c.args.rack.now in
    let place = c.args.place in
    let v = c.args.engine.now in
    let mid = g.R.Disk.view c.step_at-done.new.rack in
    let w = c.step_at-done.new.engine in
    let is : Appends v w (IsMove v.history so.clock.now) (seen_from place so) (seen_from place mid) =
    subst (λ (n : ℕ). Appends v w (IsMove v.history n) (seen_from place so) (seen_from place mid)) c.requires.now
    (c.step_at-done.ensures.stepped (ok_true c.step_at-done.result c.in-Ok-true.field-0 c.in-Ok-true.is c.in-Ok-true.field-0-test)) in
    c.requires.now ∙ sym (c.in-Ok.ensures.rest.now ∙ (rest_only place _ so mid is.adds.offers.file).now)
