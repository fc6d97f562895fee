-- Promise: What is kept of the files of a site in memory.
use Rattle.std.specs.Prelude.{ℕ, ◌≡◌, ◌≤◌, Bool, true, false, List, length, slice_index, slice_index_or}
use Rattle.cacao_site_memory.specs.Pages.{byte_in}
use Rattle.cacao_site_log.specs.Replay.{Call, file_after}
use Rattle.cacao_site_memory.specs.declared.kept_files.KeptFiles.{KeptFiles}

abbrev pub length_of : KeptFiles → ℕ → ℕ
length_of kept file = slice_index kept.lengths file

-- whether the bytes of this file are kept
abbrev pub is_whole : KeptFiles → ℕ → Bool
is_whole kept file = slice_index_or kept.whole file false

abbrev pub byte_of : KeptFiles → ℕ → ℕ → ℕ
byte_of kept file place = byte_in kept.table.items kept.pages.items file place

-- the file has these bytes: its length is kept, and if it is whole, its bytes too
pub record Keeps (kept : KeptFiles) (file : ℕ) (bytes : List ℕ) : Type 0 where
  pub long : length_of kept file ≡ length bytes
  pub each : is_whole kept file ≡ true → (place : ℕ) → byte_of kept file place ≡ slice_index bytes place

-- each file has what it reads as after these calls
pub record AreKept (starts : List (List ℕ)) (calls : List Call) (kept : KeptFiles) : Type 0 where
  pub each : (file : ℕ) → file ≤ 31 → Keeps kept file (file_after starts calls file).reads
