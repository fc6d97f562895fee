use Rattle.std.proofs.Common.{ℕ, ◌<◌, get_or}
use Rattle.base_graphs.specs.Nests.{StandsFree}
use Rattle.base_graphs.proofs.nesting.all_stand_free.Given as goal

abbrev pub invariant-loop-place : goal.invariant-loop-place
invariant-loop-place l = (k : ℕ) → k < l.place-index → StandsFree l.found l.nests (get_or l.places k 0)
