-- Promise: Bytes that come in pieces.
use Rattle.std.specs.Prelude.{ℕ, ◌+◌, ◌-◌, List, [], ◌∷◌, length, take, drop, min, nat_lt, slice_index_or, if◌then◌else◌}
use Rattle.std.specs.List.{concat}

-- what is left of the piece in which the byte of this number stands, from 0; nothing past the end
abbrev pub piece_left : ℕ → List (List ℕ) → List ℕ
piece_left at [] = []
piece_left at (piece ∷ pieces) = if nat_lt at (length piece) then drop at piece else piece_left (at - length piece) pieces

-- what a slice of so many bytes takes of them: a count has 32 bits
abbrev pub front_for : ℕ → List ℕ → List ℕ
front_for size bytes = take (min size 4_294_967_295) bytes

abbrev pub piece_at : List (List ℕ) → ℕ → List ℕ
piece_at pieces number = slice_index_or pieces number []

-- how many bytes stand before a place of a piece
abbrev pub count_before : List (List ℕ) → ℕ → ℕ → ℕ
count_before pieces number place = length (concat (take number pieces)) + place
