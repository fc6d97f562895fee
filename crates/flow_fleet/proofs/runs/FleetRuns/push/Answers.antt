use Rattle.std.proofs.Common.{sym, subst, arith}
use Rattle.flow_fleet_steps.specs.Openings.{Runs}
use Rattle.flow_fleet.specs.Fleets.{AreFleetRuns}
use Rattle.flow_fleet.proofs.RunsLemmas.{not_among, one_more}
use Rattle.flow_fleet.proofs.runs.FleetRuns.push.Goals as goal

pub invariant_of-self-2 : goal.invariant_of-self-2
invariant_of-self-2 c =
    let items = c.self.inside.list.items in
    subst (λ (l : Runs). AreFleetRuns l) (sym c.in_ok-push.ensures.items)
    (one_more items c.args.run c.args.setup c.self.invariant (omega (arith, c.if-len-ge-MOST.false, c.len.ensures, c.self.inside.list.ok.0))
    (not_among c.has.result items c.args.self.now c.args.run c.self.view_is c.if-has.false c.has.ensures) c.ranges.run.fits)
