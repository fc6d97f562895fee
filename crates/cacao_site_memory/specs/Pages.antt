-- Promise: Bytes of files in pages of 4,096 bytes.
use Rattle.std.specs.Prelude.{ℕ, ◌≡◌, ◌+◌, ◌*◌, ◌/◌, ◌%◌, ◌<◌, List, length, slice_index}

-- the place in a table of the block that has this place of a file: block by block, and the 32 files in each
abbrev pub slot_of : ℕ → ℕ → ℕ
slot_of file place = place / 4096 * 32 + file

-- the byte at this place of a file, where the table has the page of each block
unfoldable pub byte_in : List ℕ → List ℕ → ℕ → ℕ → ℕ
byte_in table pages file place = slice_index pages (slice_index table (slot_of file place) * 4096 + place % 4096)

-- so many pages: the first has zeros, and each other stands once in the table
pub record ArePages (table pages : List ℕ) (count : ℕ) : Type 0 where
  pub sized : length pages ≡ 4096 * count
  pub filled : 0 < count
  pub below : (slot : ℕ) → slice_index table slot < count
  pub apart : (slot other : ℕ) → 0 < slice_index table slot → slice_index table slot ≡ slice_index table other → slot ≡ other
  pub blank : (k : ℕ) → k < 4096 → slice_index pages k ≡ 0
