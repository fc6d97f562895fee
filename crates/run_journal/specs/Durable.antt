-- Promise: An entry behind a header that may still be to be written.
use Rattle.std.specs.Prelude.{ℕ, ◌+◌, ◌≤◌, length, Bool, true, false, List}
use Rattle.cacao_site.specs.DiskCalls.{OnlyFile}
use Rattle.cacao_site.specs.View.{SiteView}
use Rattle.run_journal.specs.JournalView.{JournalView}
use Rattle.run_journal.specs.Layout.{HasLayout, Stands, StandsBeforeOrAfter}

-- where the header need not be written any more an image has the layout, else at most 9 bytes
abbrev pub IsPrepared : Bool → List (List ℕ) → List ℕ → Type 0
IsPrepared true items image = HasLayout items image
IsPrepared false items image = length image ≤ 9

-- an image of a journal between two calls
abbrev pub IsImage : Bool → List (List ℕ) → List ℕ → Type 0
IsImage prepared items image = Stands image items × IsPrepared prepared items image

-- the device calls and the bytes of a header that is still to be written
abbrev pub header_calls : Bool → ℕ
header_calls true = 0
header_calls false = 2

abbrev pub header_bytes : Bool → ℕ
header_bytes true = 0
header_bytes false = 9

-- the journal's file alone may have changed, and each image of it at each beat stands for the list before, or for that list
-- and the item
pub record MayAppend (journal : JournalView) (item : List ℕ) (old new : SiteView) : Type 0 where
  pub file : OnlyFile journal.file old new (StandsBeforeOrAfter journal.items item)
  pub calls : new.disk.calls ≤ old.disk.calls + (header_calls journal.prepared + 4)
  pub written : new.disk.written ≤ old.disk.written + (header_bytes journal.prepared + (length item + 6))
