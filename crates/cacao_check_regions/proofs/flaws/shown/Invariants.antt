use Rattle.std.proofs.Common.{◌≡◌, ◌⊎◌, length}
use Rattle.base_graphs.specs.Tables.{IsMarked, IsOpen}
use Rattle.cacao_check_regions.proofs.ChartLemmas.{MarksBelow}
use Rattle.cacao_check_regions.proofs.flaws.shown.Given as goal

abbrev pub invariant-loop-place : goal.invariant-loop-place
invariant-loop-place l = (length l.marks ≡ l.count) × MarksBelow (λ place. IsMarked l.own place ⊎ (IsMarked l.outside place × IsOpen l.hiding place)) l.place l.marks
