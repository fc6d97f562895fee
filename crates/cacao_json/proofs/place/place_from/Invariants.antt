use Rattle.std.proofs.Common.{◌-◌, ◌≤◌, length}
use Rattle.cacao_json.specs.Places.{AreBefore, AreBehind}
use Rattle.cacao_json.proofs.place.place_from.Given as goal

abbrev pub invariant-loop-low : goal.invariant-loop-low
invariant-loop-low l = (l.low ≤ l.high) × (l.high ≤ length l.pairs) × AreBefore l.name l.pairs l.low × AreBehind l.name l.pairs l.high

abbrev pub decreases-loop-low : goal.decreases-loop-low
decreases-loop-low l = l.high - l.low
