use Rattle.std.proofs.Common.{◌≡◌, ℕ, ◌<◌, get_or, option_copied}
use Rattle.cacao_check_regions.specs.Seeing.{sight_of}
use Rattle.cacao_check_regions.proofs.seeing.has_sight.Given as goal

abbrev pub invariant-loop-item : goal.invariant-loop-item
invariant-loop-item l = (k : ℕ) → k < l.item-index → get_or l.items k (sight_of (option_copied l.found)) ≡ sight_of (option_copied l.found) → ⊥
