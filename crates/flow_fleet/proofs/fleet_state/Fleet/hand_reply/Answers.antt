use Rattle.std.proofs.Common.{◌+◌, ◌<◌, ◌≤◌, Ok, ℕ, List, length, refl, sym, ◌∙◌, ap, subst, arith}
use Rattle.flow_engine.specs.EngineView.{EngineView}
use Rattle.flow_world_steps.specs.Worlds.{holds, rests}
use Rattle.flow_fleet.specs.Leads.{Tried}
use Rattle.flow_fleet.proofs.ParcelLemmas.{goes_same, nobody_here, nobody_takes, none_takes, not_here, refuses_same, same_fleet, same_then, still_between}
use Rattle.flow_fleet.proofs.TurnLemmas.{reply_ignored}
use Rattle.flow_fleet.proofs.fleet_state.Fleet.hand_reply.Goals as goal

pub loop-place-init : goal.loop-place-init
loop-place-init g c = record { same = same_fleet c.args.self.now; stays = refl; between = c.requires.between; lower = λ k v read lt there is. absurd (omega (arith, lt)) }

pub reply-requires : goal.reply-requires
reply-requires g c =
    let same = c.loop-place.invariant.same in
    record {
      between = c.loop-place.invariant.between;
      here = subst (λ (l : List EngineView). c.loop-place.place < length l) (sym same.engines) (omega (arith, c.loop-place-test.true));
      some = subst (λ (n : ℕ). 1 ≤ n) (sym same.left) c.requires.some;
      addressed = c.requires.addressed;
      back = c.requires.back;
    }

pub returns-in-Ok-true-clause-did : goal.returns-in-Ok-true-clause-did
returns-in-Ok-true-clause-did g c = λ beat.
    let so = g.R.Disk.view c.args.rack.now in
    let lo = g.R.Disk.view c.loop-place.rack in
    let sn = g.R.Disk.view c.reply.new.rack in
    let p = c.args.parcel.now in
    goes_same so lo sn c.args.self.now c.loop-place.self c.reply.new.self (holds beat p) rests c.loop-place.invariant.same c.loop-place.invariant.stays
    (subst (λ r. Tried r p c.loop-place.place lo c.loop-place.self (holds beat p) sn c.reply.new.self) (c.in-Ok-true.is ∙ ap Ok c.in-Ok-true.field-0-test) (c.reply.ensures.tried beat))

pub returns-in-Ok-true-clause-works : goal.returns-in-Ok-true-clause-works
returns-in-Ok-true-clause-works g c = still_between (g.R.Disk.view c.reply.new.rack) c.reply.new.self c.in-Ok-true.ensures.between

pub returns-in-Ok-true-clause-few : goal.returns-in-Ok-true-clause-few
returns-in-Ok-true-clause-few g c =
    let same = c.loop-place.invariant.same.ignored in
    omega (arith, same, c.in-Ok-true.ensures.few)

pub returns-in-Err-clause-did : goal.returns-in-Err-clause-did
returns-in-Err-clause-did g c = λ beat.
    let so = g.R.Disk.view c.args.rack.now in
    let lo = g.R.Disk.view c.loop-place.rack in
    let sn = g.R.Disk.view c.reply.new.rack in
    refuses_same c.in-Err.error so lo sn c.args.self.now c.loop-place.self (holds beat c.args.parcel.now) c.loop-place.invariant.same c.loop-place.invariant.stays (c.in-Err.ensures.tried beat)

pub loop-place-preserved : goal.loop-place-preserved
loop-place-preserved g c =
    let s = c.args.self.now in
    let l = c.loop-place.self in
    let lo = g.R.Disk.view c.loop-place.rack in
    let sn = g.R.Disk.view c.reply.new.rack in
    let p = c.args.parcel.now in
    let none = subst (λ r. Tried r p c.loop-place.place lo l (holds 0 p) sn c.reply.new.self) (c.in-Ok-false.is ∙ ap Ok c.in-Ok-false.field-0-test) (c.reply.ensures.tried 0) in
    record {
      same = same_then s l c.reply.new.self c.loop-place.invariant.same none.1;
      stays = none.2 ∙ c.loop-place.invariant.stays;
      between = c.in-Ok-false.ensures.between;
      lower = none_takes s.engines.items p c.loop-place.place c.loop-place.invariant.lower (not_here l.engines.items s.engines.items p c.loop-place.place c.loop-place.invariant.same.engines none.0);
    }

pub overflow_add-self : goal.overflow_add-self
overflow_add-self g c = let calm = c.loop-place.invariant.between.calm in omega (arith, calm)

pub returns-clause-did : goal.returns-clause-did
returns-clause-did g c = λ beat.
    let s = c.args.self.now in
    let l = c.loop-place.self in
    let so = g.R.Disk.view c.args.rack.now in
    let lo = g.R.Disk.view c.loop-place.rack in
    let p = c.args.parcel.now in
    let same = c.loop-place.invariant.same in
    goes_same so lo lo s l _ (holds beat p) rests same c.loop-place.invariant.stays
    (reply_ignored lo l beat p c.requires.addressed c.requires.back
    (nobody_here s.engines.items l.engines.items p (sym same.engines) (nobody_takes s.engines.items p c.loop-place.place (omega (arith, c.loop-place-test.false)) c.loop-place.invariant.lower))
    c.loop-place.invariant.between.calm)

pub returns-clause-works : goal.returns-clause-works
returns-clause-works g c = still_between (g.R.Disk.view c.loop-place.rack) c.loop-place.self c.loop-place.invariant.between

pub returns-clause-few : goal.returns-clause-few
returns-clause-few g c =
    let same = c.loop-place.invariant.same.ignored in
    omega (arith, same)
