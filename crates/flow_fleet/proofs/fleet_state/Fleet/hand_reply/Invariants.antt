use Rattle.std.specs.Prelude.{◌≡◌, ℕ, ◌<◌, Some, slice_get}
use Rattle.oc2_msg.specs.declared.answers.Answer.{Answer}
use Rattle.flow_engine.specs.EngineCalls.{IsReplyTo}
use Rattle.flow_engine.specs.EngineView.{EngineView}
use Rattle.flow_fleet.specs.Leads.{IsBetweenTurns, IsSameFleet}
use Rattle.flow_fleet.proofs.fleet_state.Fleet.hand_reply.Given as goal

abbrev pub invariant-loop-place : goal.invariant-loop-place
invariant-loop-place g l = record {
  same : IsSameFleet l.fn.self l.self;
  stays : g.R.Disk.view l.rack ≡ g.R.Disk.view l.fn.rack;
  between : IsBetweenTurns l.self (g.R.Disk.view l.rack);
  lower : (k : ℕ) (v : EngineView) (read : Answer) → k < l.place → slice_get l.fn.self.engines.items k ≡ Some v → IsReplyTo v.history l.fn.parcel read → ⊥;
}
