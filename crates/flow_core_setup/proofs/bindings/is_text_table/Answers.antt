use Rattle.std.specs.Prelude.{map, List, ℕ}
use Rattle.serde_json.specs.Data.{Data}
use Rattle.serde_json.specs.Find.{as_object}
use Rattle.cacao_json.specs.Tree.{data_of, pair_data}
use Rattle.cacao_vars.specs.Names.{IsName}
use Rattle.cacao_book_shape.specs.Members.{TextFits, IsShort}
use Rattle.cacao_book_shape.proofs.ListLemmas.{object_with}
use Rattle.flow_core_setup.proofs.bindings.is_text_table.Goals as goal

pub returns : goal.returns
returns c =
    object_with (λ (m : List ℕ × Data). IsName m.0 × TextFits (IsShort 4096) m.1) (as_object (data_of c.args.value.now)) c.in-Some.members.now (map pair_data c.pairs.result.now) c.bind_texts.result c.in-Some.ensures c.pairs.ensures.members c.bind_texts.ensures
