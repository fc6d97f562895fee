use Rattle.std.proofs.Common.{◌≡◌, ℕ, ◌<◌, ◌≤◌, false, get_or, None}
use Rattle.base_dues.specs.Pairs.{is_by}
use Rattle.base_dues.proofs.least.first_by.Given as goal

abbrev pub invariant-loop-number : goal.invariant-loop-number
invariant-loop-number l = (k : ℕ) → l.from ≤ k → k < l.number → is_by l.moment (get_or l.moments k None) ≡ false
