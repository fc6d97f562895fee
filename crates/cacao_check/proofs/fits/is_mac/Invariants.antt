use Rattle.std.proofs.Common.{ℕ, ◌<◌, IsTrue, slice_index}
use Rattle.cacao_check.specs.Fits.{may_stand_in_mac}
use Rattle.cacao_check.proofs.fits.is_mac.Given as goal

abbrev pub invariant-loop-place : goal.invariant-loop-place
invariant-loop-place l = (k : ℕ) → k < l.place → IsTrue (may_stand_in_mac k (slice_index l.text k))
