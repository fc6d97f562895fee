-- Promise: What is told of the run in the engine's file, once that is opened.
use Rattle.std.specs.Prelude.{◌≡◌, ◌⊎◌, ℕ, IsTrue, List, []}
use Rattle.cacao_site.specs.DiskCalls.{IsDurable}
use Rattle.cacao_site.specs.View.{SiteView}
use Rattle.run_journal.specs.Layout.{Stands}
use Rattle.cacao_cli_ends.specs.Ends.{End, done}
use Rattle.cacao_cli_looks.specs.Openings.{FailsToOpen, FindsNoRun, FindsTooMany, Opens, WantsToOpen}
use Rattle.cacao_view_words.specs.Texts.{Text}

-- The file was opened and no call of the disk failed; a crash would leave what was read, which stands for entries of which this is told.
pub record TellsEntries (Of : List (List ℕ) → List Text → Type 0) (old new : SiteView) (lines : List Text) (end : End) : Type 0 where
  pub opens : Opens 0 old new
  pub durable : IsDurable 0 new.disk
  pub steady : new.disk.faults ≡ old.disk.faults
  pub entries : List (List ℕ)
  pub holds : IsTrue old.disk.told → Stands (new.disk.reads 0) entries
  pub are : Of entries lines
  pub ends : end ≡ done

-- so it was; or the file is damaged, or its run too large, or it could not be opened, or memory was wanted: then no line is told
abbrev pub OpensTo : (List (List ℕ) → List Text → Type 0) → SiteView → SiteView → List Text → End → Type 0
OpensTo Of old new lines end =
    TellsEntries Of old new lines end
    ⊎ ((lines ≡ []) × (FindsNoRun old new end ⊎ (FindsTooMany old new end ⊎ (FailsToOpen 0 old new end ⊎ WantsToOpen 0 old new end))))
