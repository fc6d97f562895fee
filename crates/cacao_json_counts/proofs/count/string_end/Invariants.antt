use Rattle.std.proofs.Common.{◌≡◌, ◌-◌, ◌≤◌, drop, length}
use Rattle.cacao_json_counts.specs.Counts.{Inside, colons_from}
use Rattle.cacao_json_counts.proofs.count.string_end.Given as goal

abbrev pub invariant-loop-plain : goal.invariant-loop-plain
invariant-loop-plain l = (l.begun ≤ l.place) × (l.place ≤ length l.bytes) × (colons_from Inside (drop l.begun l.bytes) ≡ colons_from Inside (drop l.place l.bytes))

abbrev pub decreases-loop-plain : goal.decreases-loop-plain
decreases-loop-plain l = length l.bytes - l.place
