-- Scaffold: How the text of a number in decimal begins.
use Rattle.std.specs.Prelude.{◌≡◌, ◌≢◌, ◌<◌, length, slice_index, ℕ, List}

-- with no plus sign, and with no zero before other digits
abbrev pub MayBegin : List ℕ → Type 0
MayBegin text = (0 < length text) × (slice_index text 0 ≢ 43) × (slice_index text 0 ≡ 48 → length text ≡ 1)
