use Rattle.std.specs.Prelude.{◌≡◌, length}
use Rattle.test_filters.proofs.marks.marked.Given as goal

abbrev pub invariant-loop-place : goal.invariant-loop-place
invariant-loop-place l = length l.bits ≡ l.count
