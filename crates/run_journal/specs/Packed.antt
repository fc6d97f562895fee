-- Promise: Lists of bytes that lie one behind another.
use Rattle.std.specs.Prelude.{◌≡◌, ℕ, ◌-◌, ◌≤◌, List, [], ◌∷◌, length, take, drop, vec_len, vec_capacity}
use Rattle.run_journal.specs.declared.packed.Packed.TheInside.{Inside}
use Rattle.run_journal.specs.PackedView.{PackedView}

-- the lists that end at these places of the bytes, of which the first begins here
abbrev pub parts : ℕ → List ℕ → List ℕ → List (List ℕ)
parts from [] bytes = []
parts from (end ∷ ends) bytes = take (end - from) (drop from bytes) ∷ parts end ends bytes

-- no list ends before it begins, and the last one ends with the bytes
abbrev pub AreEnds : ℕ → List ℕ → ℕ → Type 0
AreEnds from [] total = from ≡ total
AreEnds from (end ∷ ends) total = (from ≤ end) × AreEnds end ends total

abbrev pub packed_view : Inside → PackedView
packed_view a = record {
  items = parts 0 a.ends.items a.bytes.items;
  places = vec_capacity a.ends - vec_len a.ends;
  room = vec_capacity a.bytes - vec_len a.bytes;
}

abbrev pub IsPacked : Inside → Type 0
IsPacked a = AreEnds 0 a.ends.items (length a.bytes.items)
