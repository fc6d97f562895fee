use Rattle.std.specs.Prelude.{map, List, ℕ}
use Rattle.serde_json.specs.Data.{Data}
use Rattle.serde_json.specs.Find.{as_object}
use Rattle.cacao_json.specs.Tree.{data_of, pair_data}
use Rattle.cacao_ids.specs.Ids.{IsId}
use Rattle.flow_core_rules.specs.Bindings.{IsFilter}
use Rattle.cacao_book_shape.proofs.ListLemmas.{object_with}
use Rattle.flow_core_setup.proofs.bindings.is_filter_table.Goals as goal

pub returns : goal.returns
returns c =
    object_with (λ (m : List ℕ × Data). IsId m.0 × IsFilter m.1) (as_object (data_of c.args.value.now)) c.in-Some.members.now (map pair_data c.pairs.result.now) c.in_ok-fits.fits c.in-Some.ensures c.pairs.ensures.members c.in_ok-fits.ensures
