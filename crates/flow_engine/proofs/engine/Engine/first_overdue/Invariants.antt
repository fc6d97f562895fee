use Rattle.std.proofs.Common.{◌≡◌, ◌<◌, ℕ, false}
use Rattle.base_dues.specs.Pairs.{is_by}
use Rattle.flow_engine.specs.EngineCalls.{put_deadline}
use Rattle.flow_engine.proofs.engine.Engine.first_overdue.Given as goal

abbrev pub invariant-loop-issue : goal.invariant-loop-issue
invariant-loop-issue l = (k : ℕ) → k < l.issue → is_by l.fn.moment (put_deadline l.fn.self k) ≡ false
