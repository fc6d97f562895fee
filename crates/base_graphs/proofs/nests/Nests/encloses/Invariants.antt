use Rattle.std.proofs.Common.{◌≡◌, ◌⊎◌}
use Rattle.base_graphs.specs.Nests.{IsInside}
use Rattle.base_graphs.proofs.nests.Nests.encloses.Given as goal

abbrev pub invariant-loop : goal.invariant-loop
invariant-loop l = (l.at ≡ l.place) ⊎ IsInside l.self l.place l.at
