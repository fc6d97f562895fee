use Rattle.std.proofs.Common.{◌↔◌, ℕ, take, Contains}
use Rattle.cacao_check_regions.specs.Flaws.{HasOwnFlaw}
use Rattle.cacao_check_regions.proofs.flaws.flawed.Given as goal

abbrev pub invariant-loop-place : goal.invariant-loop-place
invariant-loop-place l = (p : ℕ) → Contains l.these p ↔ (Contains (take l.place-index l.places) p × HasOwnFlaw l.book l.name l.flaw p)
