use Rattle.std.proofs.Common.{ℕ, List, take}
use Rattle.std.specs.Prelude.{All}
use Rattle.cacao_check_regions.specs.declared.flaws.Flaw.TheVariants as flaw
use Rattle.cacao_check_regions.specs.Flaws.{SeesFlaw}
use Rattle.cacao_check_regions.specs.Memories.{Remembers}
use Rattle.cacao_check.proofs.sight_rules.none_missing.Given as goal

abbrev pub invariant-loop-name : goal.invariant-loop-name
invariant-loop-name l = All (λ (name : List ℕ). ¬ SeesFlaw l.book name flaw.Missing l.place) (take l.name-index l.names) × Remembers l.book l.memory
