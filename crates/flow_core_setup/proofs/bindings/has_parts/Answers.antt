use Rattle.std.specs.Prelude.{map, List, ℕ, ◌≡◌, ◌⊎◌, codes}
use Rattle.serde_json.specs.Data.{Data}
use Rattle.serde_json.specs.Find.{as_object}
use Rattle.cacao_json.specs.Tree.{data_of, pair_data}
use Rattle.cacao_book_shape.proofs.ListLemmas.{object_with}
use Rattle.flow_core_setup.proofs.bindings.has_parts.Goals as goal

pub returns : goal.returns
returns c =
    object_with (λ (m : List ℕ × Data). (m.0 ≡ codes "agents") ⊎ (m.0 ≡ codes "variables")) (as_object (data_of c.args.value.now)) c.in-Some.members.now (map pair_data c.pairs-members.result.now) c.are_parts.result c.in-Some.ensures c.pairs-members.ensures.members c.are_parts.ensures
