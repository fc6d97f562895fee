use Rattle.std.proofs.Common.{◌≡◌, length, take, Contains}
use Rattle.cacao_check_regions.specs.Charts.{AreMarksOf}
use Rattle.cacao_check_regions.proofs.sights.marked.Given as goal

abbrev pub invariant-loop-place : goal.invariant-loop-place
invariant-loop-place l = (length l.marks ≡ l.count) × AreMarksOf (Contains (take l.place-index l.places)) l.marks
