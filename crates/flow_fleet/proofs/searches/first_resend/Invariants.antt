use Rattle.flow_fleet_steps.specs.Worlds.{EachBelow}
use Rattle.flow_fleet_steps.specs.Turns.{HasNoResend}
use Rattle.flow_fleet.proofs.searches.first_resend.Given as goal

abbrev pub invariant-loop-place : goal.invariant-loop-place
invariant-loop-place l = EachBelow l.place l.fn.engines (λ k. HasNoResend l.fn.now)
