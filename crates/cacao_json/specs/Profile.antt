-- Promise: The trees that texts have: names distinct and in byte order, texts in UTF-8, whole numbers in range, at most 127 levels.
use Rattle.std.specs.Prelude.{◌≡◌, ◌≤◌, ℕ, List, true, ⊤}
use Rattle.std.specs.declared.cmp.Ordering.TheVariants.{Less}
use Rattle.std.specs.Ordering.{nat_cmp}
use Rattle.std.specs.Cmp.Lexicographic.{slice_cmp}
use Rattle.std.specs.Str.{IsUtf8}
use Rattle.serde_json.specs.Data.{Data, null, boolean, number, string, array, object, Items, no_items, item, Members, no_members, member, depth}
use Rattle.serde_json.specs.Read.{max_depth}
use Rattle.cacao_json_counts.specs.Counts.{is_whole}

-- the name is less than the first, byte by byte, a prefix first
abbrev pub IsBelow : List ℕ → Members → Type 0
IsBelow k no_members = ⊤
IsBelow k (member l d ms) = slice_cmp nat_cmp k l ≡ Less

-- At each level the names of an object rise, each once, and the names and texts are in UTF-8.
abbrev mutual
  pub IsSorted : Data → Type 0
  IsSorted null = ⊤
  IsSorted (boolean b) = ⊤
  IsSorted (number n) = ⊤
  IsSorted (string s) = IsUtf8 s
  IsSorted (array ds) = AreSorted ds
  IsSorted (object ms) = AreSortedMembers ms

  pub AreSorted : Items → Type 0
  AreSorted no_items = ⊤
  AreSorted (item d ds) = IsSorted d × AreSorted ds

  pub AreSortedMembers : Members → Type 0
  AreSortedMembers no_members = ⊤
  AreSortedMembers (member k d ms) = IsUtf8 k × IsSorted d × IsBelow k ms × AreSortedMembers ms

-- The same, and each number is whole.
abbrev mutual
  pub IsFormed : Data → Type 0
  IsFormed null = ⊤
  IsFormed (boolean b) = ⊤
  IsFormed (number n) = is_whole n ≡ true
  IsFormed (string s) = IsUtf8 s
  IsFormed (array ds) = AreFormed ds
  IsFormed (object ms) = AreFormedMembers ms

  pub AreFormed : Items → Type 0
  AreFormed no_items = ⊤
  AreFormed (item d ds) = IsFormed d × AreFormed ds

  pub AreFormedMembers : Members → Type 0
  AreFormedMembers no_members = ⊤
  AreFormedMembers (member k d ms) = IsUtf8 k × IsFormed d × IsBelow k ms × AreFormedMembers ms

pub record IsTree (d : Data) : Type 0 where
  pub shallow : depth d ≤ max_depth
  pub formed : IsFormed d
