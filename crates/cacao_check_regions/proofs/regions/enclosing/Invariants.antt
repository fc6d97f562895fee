use Rattle.std.proofs.Common.{◌≡◌, length}
use Rattle.cacao_check_regions.specs.Regions.{Encloses}
use Rattle.cacao_check_regions.proofs.ChartLemmas.{MarksBelow}
use Rattle.cacao_check_regions.proofs.regions.enclosing.Given as goal

abbrev pub invariant-loop-place : goal.invariant-loop-place
invariant-loop-place l = (length l.marks ≡ l.count) × MarksBelow (λ place. Encloses l.book place place) l.place l.marks
