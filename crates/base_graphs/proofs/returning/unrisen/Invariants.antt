use Rattle.std.proofs.Common.{◌≡◌, ◌↔◌, ℕ, ◌<◌, length}
use Rattle.base_graphs.specs.Tables.{IsMarked}
use Rattle.base_graphs.specs.Ranks.{Stays}
use Rattle.base_graphs.proofs.returning.unrisen.Given as goal

abbrev pub invariant-loop-place : goal.invariant-loop-place
invariant-loop-place l = (length l.marks ≡ l.count) × ((place : ℕ) → IsMarked l.marks place ↔ (place < l.place × Stays l.ranks l.table place))
