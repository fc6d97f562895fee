use Rattle.std.proofs.Common.{sym, ap, subst, arith}
use Rattle.std.specs.Prelude.{Ok}
use Rattle.flow_world_steps.specs.Worlds.{rests}
use Rattle.flow_fleet.specs.Leads.{Turned}
use Rattle.flow_fleet.proofs.FleetLemmas.{goes_on_to, goes_to_close, goes_to_refuse, stays_so}
use Rattle.flow_fleet.proofs.TurnLemmas.{used_few}
use Rattle.flow_fleet.proofs.fleet_state.Fleet.run_on.Goals as goal

pub loop-close-init : goal.loop-close-init
loop-close-init g c = record { goes = stays_so (g.R.Disk.view c.args.rack.now) c.args.self.now rests; between = c.requires.between }

pub returns-in-Some : goal.returns-in-Some
returns-in-Some g c = record {
  ended = goes_to_close c.in-Some.close (g.R.Disk.view c.args.rack.now) (g.R.Disk.view c.loop-close.rack) (g.R.Disk.view c.loop-close.rack) c.args.self.now c.loop-close.self rests rests
      c.loop-close.invariant.goes (c.in-Some.ensures.closes (g.R.Disk.view c.loop-close.rack) c.loop-close.invariant.between);
}

pub loop-close-smaller : goal.loop-close-smaller
loop-close-smaller g c =
    let more = c.in-Ok-None.ensures.more (ap Ok c.in-Ok-None.field-0-is) in
    let few = used_few c.take_turn.new.self (g.R.Disk.view c.take_turn.new.rack) (c.in-Ok-None.ensures.between (ap Ok c.in-Ok-None.field-0-is)) in
    omega (arith, more, few)

pub loop-close-preserved : goal.loop-close-preserved
loop-close-preserved g c = record {
  goes = goes_on_to (g.R.Disk.view c.args.rack.now) (g.R.Disk.view c.loop-close.rack) (g.R.Disk.view c.take_turn.new.rack) c.args.self.now c.loop-close.self c.take_turn.new.self rests rests rests
      c.loop-close.invariant.goes
      (subst (λ o. Turned (Ok o) (g.R.Disk.view c.loop-close.rack) c.loop-close.self rests (g.R.Disk.view c.take_turn.new.rack) c.take_turn.new.self) c.in-Ok-None.field-0-is c.in-Ok-None.ensures.turned);
  between = c.in-Ok-None.ensures.between (ap Ok c.in-Ok-None.field-0-is);
}

pub returns-in-Ok-Some : goal.returns-in-Ok-Some
returns-in-Ok-Some g c = record {
  ended = goes_to_close c.in-Ok-Some.close (g.R.Disk.view c.args.rack.now) (g.R.Disk.view c.loop-close.rack) (g.R.Disk.view c.take_turn.new.rack) c.args.self.now c.loop-close.self rests rests
      c.loop-close.invariant.goes
      (subst (λ o. Turned (Ok o) (g.R.Disk.view c.loop-close.rack) c.loop-close.self rests (g.R.Disk.view c.take_turn.new.rack) c.take_turn.new.self) c.in-Ok-Some.field-0-is c.in-Ok-Some.ensures.turned);
}

pub returns-in-Err : goal.returns-in-Err
returns-in-Err g c = record {
  ended = goes_to_refuse c.in-Err.error (g.R.Disk.view c.args.rack.now) (g.R.Disk.view c.loop-close.rack) (g.R.Disk.view c.take_turn.new.rack) c.args.self.now c.loop-close.self rests rests
      c.loop-close.invariant.goes c.in-Err.ensures.turned;
}
