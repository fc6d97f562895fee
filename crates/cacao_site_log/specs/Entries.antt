-- Promise: The calls of a `CallLog`, from its entries and the bytes of all writes and lines.
use Rattle.std.specs.Prelude.{ℕ, ◌≡◌, ◌≢◌, ◌⊎◌, ◌+◌, ◌-◌, ◌<◌, ◌≤◌, List, map, take, slice_range, slice_index, length, true}
use Rattle.cacao_site_log.specs.declared.entry.Entry.{Entry}
use Rattle.cacao_site_log.specs.declared.entry.Entry.TheVariants.{Looked, Wrote, Tried, Synced}
use Rattle.cacao_site_log.specs.Replay.{Call, looked, wrote, tried, flushed, FileState, at_rest, after_all, is_touched}

abbrev pub call_of : List ℕ → Entry → Call
call_of bytes Looked = looked
call_of bytes (Wrote file at start end) = wrote file at (slice_range bytes start end)
call_of bytes (Tried file at size) = tried file at size
call_of bytes (Synced file) = flushed file

abbrev pub calls_of : List ℕ → List Entry → List Call
calls_of bytes entries = map (call_of bytes) entries

-- the bytes of the entry lie in the first n, and its range ends in the first 64 MiB
abbrev pub FitsIn : ℕ → Entry → Type 0
FitsIn n Looked = Unit {0}
FitsIn n (Wrote file at start end) = (start ≤ end) × (end ≤ n) × (at + (end - start) ≤ 67_108_864)
FitsIn n (Tried file at size) = at + size ≤ 67_108_864
FitsIn n (Synced file) = Unit {0}

-- the entry is no sync of this file
abbrev pub IsNoSync : ℕ → Entry → Type 0
IsNoSync file Looked = Unit {0}
IsNoSync file (Wrote other at start end) = Unit {0}
IsNoSync file (Tried other at size) = Unit {0}
IsNoSync file (Synced other) = other ≢ file

-- the buffer has what the file has from this place on, and zeros past its end
abbrev pub IsReadAt : List ℕ → ℕ → List ℕ → Type 0
IsReadAt bytes at buffer = (k : ℕ) → k < length buffer → slice_index buffer k ≡ slice_index bytes (at + k)

-- each byte of the image below the synced length is touched, or as synced
abbrev pub IsAsSynced : FileState → List ℕ → Type 0
IsAsSynced file image =
    (k : ℕ) → k < length file.synced → (is_touched file.touched k ≡ true) ⊎ (slice_index image k ≡ slice_index file.synced k)

-- after the first n entries the file is as after a sync, whatever it held at the start
abbrev pub IsRestAt : ℕ → List Entry → ℕ → Type 0
IsRestAt file entries n =
    (bytes start : List ℕ)
    → after_all file (at_rest start) (calls_of bytes (take n entries))
    ≡ at_rest (after_all file (at_rest start) (calls_of bytes (take n entries))).reads
