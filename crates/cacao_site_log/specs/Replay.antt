-- Promise: A disk by the record of the calls made on it: what each file reads as, and what a crash may leave of it.
use Rattle.std.specs.Prelude.{ℕ, suc, zero, ◌+◌, ◌-◌, max, nat_le, nat_lt, Bool, true, ◌&&◌, ◌||◌, ◌==◌, if◌then◌else◌, List, [], ◌∷◌, ◌++◌, length, take, drop, replicate, slice_index, slice_index_or}
use Rattle.std.specs.List.{list_any}
use Rattle.cacao_site.specs.Counts.{count_after}
use Rattle.cacao_site.specs.View.{DiskView}

-- a call as the record keeps it
pub data Call : Type 0 where
  looked : Call  -- no file changed
  wrote : ℕ → ℕ → List ℕ → Call  -- file, place, bytes
  tried : ℕ → ℕ → ℕ → Call  -- file, place, number of bytes: a write that failed
  flushed : ℕ → Call  -- file: a sync that was done

-- a file after some calls
pub record FileState : Type 0 where
  pub reads : List ℕ  -- what it reads as
  pub synced : List ℕ  -- what it read as at the last sync
  pub longest : ℕ  -- its greatest length since
  pub touched : List (ℕ × ℕ)  -- the ranges written since, each by place and number of bytes

abbrev pub at_rest : List ℕ → FileState
at_rest bytes = record { reads = bytes; synced = bytes; longest = length bytes; touched = [] }

-- the old bytes with these at this place, and zeros where there were none
abbrev pub spliced : ℕ → List ℕ → List ℕ → List ℕ
spliced at bytes old = take at old ++ replicate (at - length old) 0 ++ bytes ++ drop (at + length bytes) old

-- the byte at this place of a file, after these bytes are written at `at`
abbrev pub byte_after : ℕ → List ℕ → ℕ → ℕ → ℕ
byte_after at bytes place byte =
    if nat_le at place && nat_lt place (at + length bytes) then slice_index bytes (place - at) else byte

-- the file after a write to a range, where it then reads as this
abbrev pub touch : ℕ → ℕ → List ℕ → FileState → FileState
touch at size reads file =
    record { reads = reads; synced = file.synced; longest = max file.longest (at + size); touched = (at, size) ∷ file.touched }

-- the file of this number after a call
abbrev pub after : ℕ → FileState → Call → FileState
after number file looked = file
after number file (wrote other at bytes) =
    if other == number then touch at (length bytes) (spliced at bytes file.reads) file else file
after number file (tried other at size) = if other == number then touch at size file.reads file else file
after number file (flushed other) = if other == number then at_rest file.reads else file

unfoldable pub after_all : ℕ → FileState → List Call → FileState
after_all number file [] = file
after_all number file (call ∷ later) = after_all number (after number file call) later

-- the file of this number after these calls, from its contents at the start
abbrev pub file_after : List (List ℕ) → List Call → ℕ → FileState
file_after starts calls number = after_all number (at_rest (slice_index_or starts number [])) calls

abbrev pub is_touched : List (ℕ × ℕ) → ℕ → Bool
is_touched ranges k = list_any (λ range. nat_le range.0 k && nat_lt k (range.0 + range.1)) ranges

-- each of the first n bytes is touched, or as synced
abbrev pub agrees : List (ℕ × ℕ) → List ℕ → List ℕ → ℕ → Bool
agrees touched synced image zero = true
agrees touched synced image (suc n) =
    agrees touched synced image n && (is_touched touched n || (slice_index image n == slice_index synced n))

-- whether a crash may leave this image: its length lies between the synced length and the greatest since, and each byte below the synced length that no write since covers is as synced
unfoldable pub is_image : FileState → List ℕ → Bool
is_image file image =
    nat_le (length file.synced) (length image)
    && (nat_le (length image) file.longest && agrees file.touched file.synced image (length file.synced))

-- a disk that began at a beat with these contents, after so many device calls and so many calls of it
abbrev pub disk_view : List (List ℕ) → List Call → ℕ → ℕ → ℕ → ℕ → ℕ → DiskView
disk_view starts log start made calls written faults = record {
  told = true;
  reads = λ file. (file_after starts log file).reads;
  left = λ file beat image. is_image (file_after starts (take (beat - start) log) file) image;
  beat = count_after start made;
  calls = calls;
  written = written;
  faults = faults;
  label = [];
}
