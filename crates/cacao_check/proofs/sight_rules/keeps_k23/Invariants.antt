use Rattle.std.proofs.Common.{◌≡◌, ℕ, ◌<◌, List, Some, slice_get}
use Rattle.cacao_check_regions.specs.Flaws.{SeesFlaw, result_flaw}
use Rattle.cacao_check_regions.specs.Memories.{Remembers}
use Rattle.cacao_check.proofs.sight_rules.keeps_k23.Given as goal

abbrev pub invariant-loop-at : goal.invariant-loop-at
invariant-loop-at l =
    ((k : ℕ) (name : List ℕ) → k < l.at → slice_get l.outs k ≡ Some name → ¬ SeesFlaw l.book name (result_flaw l.action k) l.place) × Remembers l.book l.memory
