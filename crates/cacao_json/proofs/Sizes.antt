-- Each part is smaller than the whole.
use Rattle.std.proofs.Common.{◌<◌, List, [], ◌∷◌, ◌++◌, arith}
use Rattle.serde_json.specs.View.{view, items_view, members_view}
use Rattle.serde_json.specs.declared.value.Value.{Value}
use Rattle.serde_json.proofs.Views.{Entry}
use Rattle.cacao_json.specs.Size.{size, items_size, members_size}

pub item_smaller : (done rest : List Value) (v : Value) → size (view v) < items_size (items_view (done ++ v ∷ rest))
item_smaller [] rest v = omega arith
item_smaller (w ∷ done) rest v = omega (arith, item_smaller done rest v)

pub pair_smaller : (done rest : List Entry) (e : Entry) → size (view e.1) < members_size (members_view (done ++ e ∷ rest))
pair_smaller [] rest e = omega arith
pair_smaller (x ∷ done) rest e = omega (arith, pair_smaller done rest e)
