use Rattle.std.proofs.Common.{ℕ, ◌<◌, get_or}
use Rattle.base_graphs.specs.Tables.{IsMarked}
use Rattle.cacao_check_regions.proofs.seeing.has_marked.Given as goal

abbrev pub invariant-loop-place : goal.invariant-loop-place
invariant-loop-place l = (k : ℕ) → k < l.place-index → IsMarked l.marks (get_or l.places k 0) → ⊥
