use Rattle.std.proofs.Common.{◌⊎◌, ℕ, List, take, IsSome}
use Rattle.std.specs.Prelude.{All}
use Rattle.cacao_check_steps.specs.Links.{declares}
use Rattle.cacao_check_regions.specs.Regions.{IsPlaced}
use Rattle.cacao_check.specs.Rules.{IsDeclaredAlike}
use Rattle.cacao_check_regions.specs.Memories.{Remembers}
use Rattle.cacao_check.proofs.sight_rules.are_alike.Given as goal

abbrev pub invariant-loop-name : goal.invariant-loop-name
invariant-loop-name l =
    All (λ (name : List ℕ). IsSome (declares l.book name l.place) ⊎ IsPlaced l.book l.place → IsDeclaredAlike l.book l.place l.theirs name l.as_external) (take l.name-index l.names)
    × Remembers l.book l.memory
