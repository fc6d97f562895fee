use Rattle.std.proofs.Common.{◌≡◌, map, take}
use Rattle.cacao_json.specs.Tree.{pair_data}
use Rattle.cacao_book.specs.Books.{case_of}
use Rattle.cacao_book.proofs.step_reading.read_cases.Given as goal

abbrev pub invariant-loop-pair : goal.invariant-loop-pair
invariant-loop-pair l = l.cases.items ≡ map case_of (map pair_data (take l.pair-index l.pair-items))
