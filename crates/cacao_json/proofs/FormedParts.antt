-- The parts of a value of the profile are of the profile.
use Rattle.std.proofs.Common.{List, [], ◌∷◌, ◌++◌}
use Rattle.serde_json.specs.View.{view, items_view, members_view}
use Rattle.serde_json.specs.declared.value.Value.{Value}
use Rattle.serde_json.proofs.Views.{Entry}
use Rattle.serde_json.specs.Data.{Data, null, boolean, number, string, array, object, Items, no_items, item, Members, no_members, member}
use Rattle.cacao_json.specs.Profile.{IsSorted, AreSorted, AreSortedMembers, IsFormed, AreFormed, AreFormedMembers}

pub formed_item : (done rest : List Value) (v : Value) → AreFormed (items_view (done ++ v ∷ rest)) → IsFormed (view v)
formed_item [] rest v h = h.0
formed_item (w ∷ done) rest v h = formed_item done rest v h.1

pub formed_pair : (done rest : List Entry) (e : Entry) → AreFormedMembers (members_view (done ++ e ∷ rest)) → IsFormed (view e.1)
formed_pair [] rest e h = h.1
formed_pair (x ∷ done) rest e h = formed_pair done rest e h.3

mutual
  pub sorted : (d : Data) → IsFormed d → IsSorted d
  sorted null h = tt
  sorted (boolean b) h = tt
  sorted (number n) h = tt
  sorted (string s) h = h
  sorted (array ds) h = sorted_items ds h
  sorted (object ms) h = sorted_members ms h

  pub sorted_items : (ds : Items) → AreFormed ds → AreSorted ds
  sorted_items no_items h = tt
  sorted_items (item d ds) h = (sorted d h.0, sorted_items ds h.1)

  pub sorted_members : (ms : Members) → AreFormedMembers ms → AreSortedMembers ms
  sorted_members no_members h = tt
  sorted_members (member k d ms) h = (h.0, sorted d h.1, h.2, sorted_members ms h.3)
