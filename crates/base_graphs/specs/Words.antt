-- Scaffold: Marks kept as the bits of words.
use Rattle.std.specs.Prelude.{ℕ, ◌/◌, ◌%◌, ◌==◌, Bool, List, map, slice_index_or}
use Rattle.std.specs.Int.{bit_at}
use Rattle.std.specs.List.{range_with_len}

-- the mark of a place: its bit in its word of 64
abbrev pub mark_of : List ℕ → ℕ → Bool
mark_of words place = bit_at (slice_index_or words (place / 64) 0) (place % 64) == 1

-- the marks of the places below n
unfoldable pub marks_of : ℕ → List ℕ → List Bool
marks_of n words = map (mark_of words) (range_with_len 0 n)
