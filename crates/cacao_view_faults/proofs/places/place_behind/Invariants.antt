use Rattle.std.proofs.Common.{◌≡◌, ◌≤◌, ◌+◌}
use Rattle.cacao_view_faults.specs.Places.{place_behind}
use Rattle.cacao_view_faults.specs.PlaceBy.{place_by}
use Rattle.cacao_view_faults.proofs.places.place_behind.Given as goal

abbrev pub invariant-loop-n : goal.invariant-loop-n
invariant-loop-n l = record {
  line : l.place.line ≤ l.n + 1;
  column : l.place.column ≤ l.n + 1;
  is : place_by l.place ≡ place_behind l.text l.n;
}
