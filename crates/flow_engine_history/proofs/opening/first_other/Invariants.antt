use Rattle.std.proofs.Common.{◌≡◌, ◌<◌, ℕ, slice_get}
use Rattle.flow_engine_history.proofs.opening.first_other.Given as goal

abbrev pub invariant-loop-index : goal.invariant-loop-index
invariant-loop-index l = record { same : (k : ℕ) → k < l.index → slice_get l.held k ≡ slice_get l.asked k }
