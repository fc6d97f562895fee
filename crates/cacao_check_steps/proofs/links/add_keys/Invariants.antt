use Rattle.std.proofs.Common.{◌≡◌, ◌++◌, filter_map, take}
use Rattle.cacao_book.specs.Steps.{place_of}
use Rattle.cacao_check_steps.proofs.links.add_keys.Given as goal

abbrev pub invariant-loop-key : goal.invariant-loop-key
invariant-loop-key l = l.places ≡ l.initial.places ++ filter_map (place_of l.steps) (take l.key-index l.keys)
