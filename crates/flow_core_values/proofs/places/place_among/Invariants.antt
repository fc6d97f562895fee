use Rattle.std.proofs.Common.{◌+◌, ◌≤◌}
use Rattle.flow_core_rules.specs.Places.{addressees, places_of}
use Rattle.flow_core_values.proofs.PlaceLemmas.{IsLeft}
use Rattle.flow_core_values.proofs.places.place_among.Given as goal

abbrev pub invariant-loop-number : goal.invariant-loop-number
invariant-loop-number l = (l.number + l.left ≤ l.n) × IsLeft (places_of (addressees l.agent l.targets)) l.commands l.n l.number l.left
