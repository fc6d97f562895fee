-- Promise: How a command goes that holds no session: what it reads, what it does and the lines that it says, all but the last.
use Rattle.std.specs.Prelude.{◌≡◌, ◌⊎◌, List, Option, Result}
use Rattle.serde_json.specs.Data.{Data}
use Rattle.cacao_check.specs.FirstBreak.{IsAccepted, IsFirstBreak}
use Rattle.cacao_check.specs.declared.breaks.Break.{Break}
use Rattle.cacao_check.specs.declared.breaks.Mode.{Mode}
use Rattle.cacao_site.specs.View.{SiteView}
use Rattle.cacao_cli_ends.specs.Asked.{Asked}
use Rattle.cacao_cli_ends.specs.Ends.{End, refused, no_memory}
use Rattle.cacao_cli_ends.specs.Files.{ShelfCall, NamedText, ReadsTo, files_of}
use Rattle.cacao_cli_ends.specs.Lines.{SaysWork}
use Rattle.cacao_cli_ends.specs.Work.{Work, ends, judges, opens_filter, opens_run, compares, rehearsals, work, starts}
use Rattle.cacao_cli_looks.specs.Audited.{Compares}
use Rattle.cacao_cli_looks.specs.Openings.{FailsToOpen, FindsDamage, FindsNoRun, FindsTooMany, SaysFilter, SaysRun, WantsToOpen}

-- a rule of the playbooks is broken, and the end tells the first break
pub record TellsBreak (trees : List Data) (mode : Mode) (old new : SiteView) (last : End) : Type 0 where
  pub broken : Break
  pub first : IsFirstBreak trees mode broken
  pub same : new ≡ old
  pub ends : last ≡ refused broken

-- memory was wanted for the judgement
pub record IsNotJudged (old new : SiteView) (last : End) : Type 0 where
  pub same : new ≡ old
  pub ends : last ≡ no_memory

-- The work was done, from the one site to the other, all but the last line. No rehearsal and no session is such work.
abbrev pub Looks : Work → SiteView → SiteView → End → Type 0
Looks (ends lines end) old new last = SaysWork lines end old new last
Looks (opens_filter agent look) old new last =
    SaysFilter agent look old new last
    ⊎ (FindsDamage agent old new last ⊎ (FailsToOpen agent old new last ⊎ WantsToOpen agent old new last))
Looks opens_run old new last =
    SaysRun old new last
    ⊎ (FindsNoRun old new last ⊎ (FindsTooMany old new last ⊎ (FailsToOpen 0 old new last ⊎ WantsToOpen 0 old new last)))
Looks (compares files) old new last = Compares files old new last
Looks (rehearsals positions) old new last = ⊥
Looks (starts start) old new last = ⊥
Looks (judges trees mode accepted) old new last =
    (IsAccepted trees mode × Looks accepted old new last) ⊎ (TellsBreak trees mode old new last ⊎ IsNotJudged old new last)

-- the files were read, and the work that they come to was done
pub record Looked (asked : Option Asked) (shelf : ShelfCall) (old new : SiteView) (last : End) : Type 0 where
  pub read : Result (List NamedText) End
  pub reads : ReadsTo shelf (files_of asked) read
  pub looks : Looks (work asked read) old new last
