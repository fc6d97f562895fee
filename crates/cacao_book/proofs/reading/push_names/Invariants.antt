use Rattle.std.proofs.Common.{◌≡◌, ◌++◌, map, take}
use Rattle.cacao_json.specs.Tree.{pair_data}
use Rattle.cacao_book.proofs.reading.push_names.Given as goal

abbrev pub invariant-loop-pair : goal.invariant-loop-pair
invariant-loop-pair l = l.names.items ≡ l.initial.names.items ++ map (λ m. m.0) (map pair_data (take l.pair-index l.members))
