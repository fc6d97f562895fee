use Rattle.std.proofs.Common.{ℕ, ◌<◌}
use Rattle.cacao_vars.specs.References.{HasReferenceAt}
use Rattle.cacao_vars.proofs.references.first_place.Given as goal

-- no reference stands at a place so far
abbrev pub invariant-loop-place : goal.invariant-loop-place
invariant-loop-place l = (place : ℕ) → place < l.place → ¬ HasReferenceAt l.text place
