use Rattle.std.proofs.Common.{ℕ, ◌<◌, get_or}
use Rattle.base_graphs.specs.Nests.{Fits}
use Rattle.base_graphs.proofs.nesting.row_fits.Given as goal

abbrev pub invariant-loop-to : goal.invariant-loop-to
invariant-loop-to l = (k : ℕ) → k < l.to-index → Fits l.is_guarded l.found l.nests l.from (get_or l.places k 0)
