use Rattle.std.specs.Prelude.{◌≢◌, None}
use Rattle.flow_fleet_steps.specs.Worlds.{EachBelow}
use Rattle.flow_core_rules.specs.Changes.{outcome}
use Rattle.flow_fleet.proofs.searches.first_going.Given as goal

abbrev pub invariant-loop-place : goal.invariant-loop-place
invariant-loop-place l = EachBelow l.place l.fn.engines (λ k v. outcome v.history.seen.lists ≢ None)
