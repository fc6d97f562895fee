-- Scaffold: What a crash leaves of a site in memory.
use Rattle.std.specs.Prelude.{◌≡◌, ℕ, ◌<◌, List, [], length, IsTrue, slice_index_or}
use Rattle.cacao_site_log.specs.Replay.{Call, file_after, is_image}

-- the image that this choice picks of a file after these calls
pub record IsPicked (starts : List (List ℕ)) (log : List Call) (choice file : ℕ) (image : List ℕ) : Type 0 where
  pub left : IsTrue (is_image (file_after starts log file) image)
  pub reads : choice ≡ 0 → image ≡ (file_after starts log file).reads
  pub synced : choice ≡ 1 → image ≡ (file_after starts log file).synced

-- each file holds the image that this choice picks
abbrev pub ArePicked : List (List ℕ) → List Call → ℕ → List (List ℕ) → Type 0
ArePicked starts log choice files =
    (file : ℕ) → file < length files → IsPicked starts log choice file (slice_index_or files file [])
