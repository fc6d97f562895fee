use Rattle.std.specs.Prelude.{map, List, ℕ}
use Rattle.serde_json.specs.Data.{Data}
use Rattle.cacao_json.specs.Tree.{pair_data}
use Rattle.cacao_ids.specs.Ids.{IsId}
use Rattle.flow_core_rules.specs.Bindings.{IsFilter}
use Rattle.std.specs.List.{AllWithin}
use Rattle.flow_core_setup.proofs.bindings.bind_filters.Given as goal

abbrev pub invariant-loop-pair : goal.invariant-loop-pair
invariant-loop-pair l = AllWithin (λ (m : List ℕ × Data). IsId m.0 × IsFilter m.1) (map pair_data l.members) 0 l.pair-index
