use Rattle.std.proofs.Common.{◌≡◌, ◌++◌, List, drop, take}
use Rattle.cacao_view_preflight.specs.NameSets.{HasJust}
use Rattle.cacao_view_preflight.specs.Warnings.{Text, all_agents, each, of_agents}
use Rattle.cacao_view_preflight.proofs.agents.warn_of_agents.Given as goal

abbrev pub invariant-loop-n : goal.invariant-loop-n
invariant-loop-n l =
    HasJust l.met (all_agents (take l.n l.books))
    × ((all : List Text) → HasJust l.bound all → l.lines ++ each (of_agents all l.books) l.n (drop l.n l.books) ≡ l.fn.lines ++ each (of_agents all l.books) 0 l.books)
