-- Promise: Calls that leave of each file's images only such as it had, and that put and say nothing: openings, and calls that
-- change nothing.
use Rattle.std.specs.Prelude.{◌≡◌, ◌⊎◌, ℕ, ◌<◌, ◌≤◌, List, IsTrue}
use Rattle.cacao_site.specs.DiskCalls.{GoesOn, IsLeft, KeepsDisk, OnlyFile, SameRest, StaysAt}
use Rattle.cacao_site.specs.View.{SiteView}

-- no file has an image that it did not have, and nothing was put or said
pub record OnlyShrinks (old new : SiteView) : Type 0 where
  pub goes_on : GoesOn old.disk new.disk
  pub images : (file beat : ℕ) (image : List ℕ) → old.disk.beat ≤ beat → beat ≤ new.disk.beat → IsLeft new.disk file beat image
      → IsLeft old.disk file old.disk.beat image
  pub puts : new.link.puts ≡ old.link.puts
  pub said : new.link.said ≡ old.link.said

-- so it is where one file has fewer images
abbrev pub FileShrinks : Type 0
FileShrinks = (file : ℕ) (old new : SiteView) → IsTrue old.disk.told → OnlyFile file old new (IsLeft old.disk file old.disk.beat)
    → OnlyShrinks old new

-- where the files of the first filters have, once they are open, and the others stay
abbrev pub FiltersShrink : Type 0
FiltersShrink = (n : ℕ) (old new : SiteView) → GoesOn old.disk new.disk
    → ((file : ℕ) → 1 ≤ file → file ≤ n → (beat : ℕ) (image : List ℕ) → old.disk.beat ≤ beat → beat ≤ new.disk.beat
    → IsLeft new.disk file beat image → IsLeft old.disk file old.disk.beat image)
    → ((file : ℕ) → (file ≡ 0) ⊎ (n < file) → StaysAt old.disk new.disk file) → SameRest old new → OnlyShrinks old new

-- where nothing that is spoken of changes
abbrev pub KeptShrinks : Type 0
KeptShrinks = (old new : SiteView) → KeepsDisk old.disk new.disk → new.link.puts ≡ old.link.puts → new.link.said ≡ old.link.said
    → OnlyShrinks old new

-- and where one such call follows another
abbrev pub ShrinksOn : Type 0
ShrinksOn = (old between new : SiteView) → OnlyShrinks old between → OnlyShrinks between new → OnlyShrinks old new
