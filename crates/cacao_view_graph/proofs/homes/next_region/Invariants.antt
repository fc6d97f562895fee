use Rattle.std.proofs.Common.{ℕ, ◌<◌, ◌≤◌}
use Rattle.cacao_view_graph.specs.Finding.{Has}
use Rattle.cacao_view_graph.proofs.homes.next_region.Given as goal

-- none of those so far has the place
abbrev pub invariant-loop-control : goal.invariant-loop-control
invariant-loop-control l = (control : ℕ) → l.from ≤ control → control < l.control → ¬ Has l.regions.controls.items l.place control
