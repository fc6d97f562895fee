use Rattle.std.proofs.Common.{◌≡◌, ℕ, [], ◌<◌, length, slice_index_or}
use Rattle.cacao_check_regions.specs.Regions.{InRegion}
use Rattle.cacao_check_regions.specs.Charts.{AreMarksOf}
use Rattle.cacao_check_regions.proofs.regions.regions_of.Given as goal

abbrev pub invariant-loop-control : goal.invariant-loop-control
invariant-loop-control l = (length l.controls.items ≡ l.control) × ((control : ℕ) → control < l.control → AreMarksOf (InRegion l.book control) (slice_index_or l.controls.items control []))
