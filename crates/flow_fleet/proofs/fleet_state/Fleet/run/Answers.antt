use Rattle.std.proofs.Common.{refl, ap, subst, arith}
use Rattle.std.specs.Prelude.{Ok}
use Rattle.flow_world_steps.specs.Worlds.{rests}
use Rattle.flow_fleet.specs.Leads.{Turned}
use Rattle.flow_fleet.proofs.FleetLemmas.{goes_on_to, goes_to_close, goes_to_refuse, stays_so, then_ended}
use Rattle.flow_fleet.proofs.LoopLemmas.{begun_all, begun_here, begun_more}
use Rattle.flow_fleet.proofs.fleet_state.Fleet.run.Goals as goal

pub loop-place-init : goal.loop-place-init
loop-place-init g c = record {
  goes = stays_so (g.R.Disk.view c.args.rack.now) c.args.self.now rests;
  works = c.requires.works;
  settled = λ k v lt there. absurd (omega (arith, lt));
  puts = λ k v le there. c.requires.puts k v there;
  many = refl;
  calm = c.requires.calm;
}

pub loop-place-preserved : goal.loop-place-preserved
loop-place-preserved g c =
    let so = g.R.Disk.view c.args.rack.now in
    let mid = g.R.Disk.view c.loop-place.rack in
    let sn = g.R.Disk.view c.begin_at.new.rack in
    let goes = subst (λ o. Turned (Ok o) mid c.loop-place.self rests sn c.begin_at.new.self) c.in-Ok-None.field-0-is c.in-Ok-None.ensures.turned in
    begun_more c.loop-place.place c.args.self.now c.loop-place.self c.begin_at.new.self so mid sn c.loop-place.invariant
    (goes_on_to so mid sn c.args.self.now c.loop-place.self c.begin_at.new.self rests rests rests c.loop-place.invariant.goes goes) (c.in-Ok-None.ensures.begun (ap Ok c.in-Ok-None.field-0-is))

pub begin_at-requires-clause-puts : goal.begin_at-requires-clause-puts
begin_at-requires-clause-puts g c = begun_here c.loop-place.place c.args.self.now c.loop-place.self (g.R.Disk.view c.args.rack.now) (g.R.Disk.view c.loop-place.rack) c.loop-place.invariant

pub begin_at-requires-clause-here : goal.begin_at-requires-clause-here
begin_at-requires-clause-here g c = let many = c.loop-place.invariant.many in omega (arith, many, c.loop-place-test.true)

pub returns-in-Ok-Some : goal.returns-in-Ok-Some
returns-in-Ok-Some g c = record {
  ended = goes_to_close c.in-Ok-Some.close (g.R.Disk.view c.args.rack.now) (g.R.Disk.view c.loop-place.rack) (g.R.Disk.view c.begin_at.new.rack) c.args.self.now c.loop-place.self rests rests
      c.loop-place.invariant.goes
      (subst (λ o. Turned (Ok o) (g.R.Disk.view c.loop-place.rack) c.loop-place.self rests (g.R.Disk.view c.begin_at.new.rack) c.begin_at.new.self) c.in-Ok-Some.field-0-is c.in-Ok-Some.ensures.turned);
}

pub returns-in-Err : goal.returns-in-Err
returns-in-Err g c = record {
  ended = goes_to_refuse c.in-Err.error (g.R.Disk.view c.args.rack.now) (g.R.Disk.view c.loop-place.rack) (g.R.Disk.view c.begin_at.new.rack) c.args.self.now c.loop-place.self rests rests
      c.loop-place.invariant.goes c.in-Err.ensures.turned;
}

pub run_on-requires : goal.run_on-requires
run_on-requires g c = record {
  between = begun_all c.loop-place.place c.args.self.now c.loop-place.self (g.R.Disk.view c.args.rack.now) (g.R.Disk.view c.loop-place.rack) c.loop-place.invariant
      (let many = c.loop-place.invariant.many in omega (arith, many, c.loop-place-test.false));
}

pub returns : goal.returns
returns g c = record {
  ended = then_ended c.run_on.result (g.R.Disk.view c.args.rack.now) (g.R.Disk.view c.loop-place.rack) (g.R.Disk.view c.run_on.new.rack) c.args.self.now c.loop-place.self rests rests
      c.loop-place.invariant.goes c.run_on.ensures.ended;
}
