use Rattle.std.proofs.Common.{◌≡◌, map, take}
use Rattle.cacao_json.specs.Tree.{pair_data}
use Rattle.cacao_book.specs.Books.{step_of}
use Rattle.cacao_book.proofs.step_reading.read_steps.Given as goal

abbrev pub invariant-loop-pair : goal.invariant-loop-pair
invariant-loop-pair l = l.steps.items ≡ map step_of (map pair_data (take l.pair-index l.pair-items))
