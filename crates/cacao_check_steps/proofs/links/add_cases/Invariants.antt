use Rattle.std.proofs.Common.{◌≡◌, ◌++◌, filter_map, map, take}
use Rattle.cacao_book.specs.Steps.{place_of}
use Rattle.cacao_check_steps.proofs.links.add_cases.Given as goal

abbrev pub invariant-loop-one : goal.invariant-loop-one
invariant-loop-one l = l.places ≡ l.initial.places ++ filter_map (place_of l.steps) (map (λ one. one.step) (take l.one-index l.cases))
