use Rattle.std.proofs.Common.{ℕ, ◌<◌, get_or}
use Rattle.cacao_check_regions.specs.Flaws.{HasOwnFlaw}
use Rattle.cacao_check_regions.proofs.flaws.none_flawed.Given as goal

abbrev pub invariant-loop-place : goal.invariant-loop-place
invariant-loop-place l = (k : ℕ) → k < l.place-index → HasOwnFlaw l.book l.name l.flaw (get_or l.places k 0) → ⊥
