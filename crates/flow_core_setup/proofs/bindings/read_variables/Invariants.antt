use Rattle.std.proofs.Common.{◌≡◌, map, take, List, ℕ}
use Rattle.serde_json.specs.Data.{Data}
use Rattle.cacao_json.specs.Tree.{pair_data}
use Rattle.cacao_book_shape.specs.Members.{text_of}
use Rattle.flow_core_setup.proofs.bindings.read_variables.Given as goal

abbrev pub invariant-loop-pair : goal.invariant-loop-pair
invariant-loop-pair l = l.variables.items ≡ map (λ (m : List ℕ × Data). (m.0, text_of m.1)) (map pair_data (take l.pair-index l.pair-items))
