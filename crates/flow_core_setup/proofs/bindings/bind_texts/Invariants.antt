use Rattle.std.specs.Prelude.{map, List, ℕ}
use Rattle.serde_json.specs.Data.{Data}
use Rattle.cacao_json.specs.Tree.{pair_data}
use Rattle.cacao_vars.specs.Names.{IsName}
use Rattle.cacao_book_shape.specs.Members.{TextFits, IsShort}
use Rattle.std.specs.List.{AllWithin}
use Rattle.flow_core_setup.proofs.bindings.bind_texts.Given as goal

abbrev pub invariant-loop-pair : goal.invariant-loop-pair
invariant-loop-pair l = AllWithin (λ (m : List ℕ × Data). IsName m.0 × TextFits (IsShort 4096) m.1) (map pair_data l.members) 0 l.pair-index
