use Rattle.std.proofs.Common.{◌≡◌, map, take, List, ℕ, nat_abs}
use Rattle.std.specs.Prelude.{unwrap_or, option_map}
use Rattle.serde_json.specs.Data.{Data}
use Rattle.cacao_json.specs.Tree.{pair_data}
use Rattle.cacao_book_shape.specs.Members.{whole}
use Rattle.flow_core_setup.proofs.bindings.read_agents.Given as goal

abbrev pub invariant-loop-pair : goal.invariant-loop-pair
invariant-loop-pair l = l.agents.items ≡ map (λ (m : List ℕ × Data). (m.0, unwrap_or (option_map nat_abs (whole m.1)) 0)) (map pair_data (take l.pair-index l.pair-items))
