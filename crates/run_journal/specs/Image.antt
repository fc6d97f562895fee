-- Promise: The entries of an image, each with the place of its gate.
use Rattle.std.specs.Prelude.{◌≡◌, ℕ, List, map, length, take, Some, slice_get}
use Rattle.run_journal.specs.declared.entries.Entry.{Entry}
use Rattle.run_journal.specs.Layout.{front}

-- the bytes of the entries, in order
abbrev pub bytes_of : List Entry → List (List ℕ)
bytes_of entries = map (λ (entry : Entry). entry.bytes) entries

-- the gate of each stands right behind the header and the entries before it
abbrev pub ArePlaced : List Entry → Type 0
ArePlaced entries =
    (n : ℕ) (entry : Entry) → slice_get entries n ≡ Some entry → entry.place ≡ length (front (take n (bytes_of entries)))
