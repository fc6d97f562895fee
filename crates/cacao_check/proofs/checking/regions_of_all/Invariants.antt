use Rattle.std.proofs.Common.{◌≡◌, length}
use Rattle.cacao_check_regions.specs.Charts.{AreRegionsOf}
use Rattle.cacao_check_steps.specs.Pairing.{EachPair}
use Rattle.cacao_check.proofs.checking.regions_of_all.Given as goal

abbrev pub invariant-loop-number : goal.invariant-loop-number
invariant-loop-number l = (length l.all.items ≡ l.number) × EachPair AreRegionsOf l.books l.all.items
