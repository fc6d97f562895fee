use Rattle.std.specs.Prelude.{map, List, ℕ, ◌≡◌, ◌⊎◌, codes}
use Rattle.serde_json.specs.Data.{Data}
use Rattle.cacao_json.specs.Tree.{pair_data}
use Rattle.std.specs.List.{AllWithin}
use Rattle.flow_core_setup.proofs.bindings.are_parts.Given as goal

abbrev pub invariant-loop-pair : goal.invariant-loop-pair
invariant-loop-pair l = AllWithin (λ (m : List ℕ × Data). (m.0 ≡ codes "agents") ⊎ (m.0 ≡ codes "variables")) (map pair_data l.members) 0 l.pair-index
