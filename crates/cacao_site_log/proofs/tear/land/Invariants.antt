use Rattle.std.proofs.Common.{◌≡◌, ◌⊎◌, ◌+◌, ◌<◌, ◌≤◌, ℕ, slice_index}
use Rattle.cacao_site_log.proofs.tear.land.Given as goal

abbrev pub invariant-loop-p : goal.invariant-loop-p
invariant-loop-p l = (k : ℕ) → (k < l.at) ⊎ (l.at + l.size ≤ k) → slice_index l.image k ≡ slice_index l.fn.image k
