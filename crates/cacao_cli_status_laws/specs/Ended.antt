-- Promise: How a call of the program goes: what it reads, what it does, the lines that it says, and its status.
use Rattle.std.specs.Prelude.{◌⊎◌, ℕ, List, Option, Result}
use Rattle.cacao_check.specs.FirstBreak.{IsAccepted}
use Rattle.cacao_site.specs.View.{SiteView}
use Rattle.cacao_cli_ends.specs.Asked.{Asked}
use Rattle.cacao_cli_looks.specs.Audited.{Compares}
use Rattle.cacao_cli_ends.specs.Ends.{End}
use Rattle.cacao_cli_ends.specs.Files.{ShelfCall, NamedText, ReadsTo, files_of}
use Rattle.cacao_cli_session_laws.specs.Holding.{HoldsSession, TellsBadLine, TellsBindBreak, TellsBookBreak, WantsToStart}
use Rattle.cacao_cli_ends.specs.Lines.{SaysWork, Tells}
use Rattle.cacao_cli_looks.specs.Openings.{FailsToOpen, FindsDamage, FindsNoRun, FindsTooMany, SaysFilter, SaysRun, WantsToOpen}
use Rattle.cacao_cli_status_laws.specs.Rehearsing.{Rehearses}
use Rattle.cacao_cli_ends.specs.Work.{Start, Work, ends, judges, opens_filter, opens_run, compares, rehearsals, work, starts}
use Rattle.cacao_cli_looks.specs.Looking.{IsNotJudged, TellsBreak}

-- The work was done, from the one site to the other, all but the last line. `Holds` tells of a start what came of its session.
abbrev pub PerformsBy : (Start → SiteView → SiteView → End → Type 0) → Work → SiteView → SiteView → End → Type 0
PerformsBy Holds (ends lines end) old new last = SaysWork lines end old new last
PerformsBy Holds (opens_filter agent look) old new last =
    SaysFilter agent look old new last
    ⊎ (FindsDamage agent old new last ⊎ (FailsToOpen agent old new last ⊎ WantsToOpen agent old new last))
PerformsBy Holds opens_run old new last =
    SaysRun old new last
    ⊎ (FindsNoRun old new last ⊎ (FindsTooMany old new last ⊎ (FailsToOpen 0 old new last ⊎ WantsToOpen 0 old new last)))
PerformsBy Holds (compares files) old new last = Compares files old new last
PerformsBy Holds (rehearsals positions) old new last = Rehearses positions old new last
PerformsBy Holds (starts start) old new last =
    TellsBadLine start old new last
    ⊎ (TellsBookBreak start old new last
    ⊎ (TellsBindBreak start old new last ⊎ (Holds start old new last ⊎ WantsToStart old new last)))
PerformsBy Holds (judges trees mode accepted) old new last =
    (IsAccepted trees mode × PerformsBy Holds accepted old new last) ⊎ (TellsBreak trees mode old new last ⊎ IsNotJudged old new last)

-- no session was held
abbrev pub NoSession : Start → SiteView → SiteView → End → Type 0
NoSession start old new last = ⊥

-- the files were read, and the work that they come to was done
pub record PerformedBy (Holds : Start → SiteView → SiteView → End → Type 0) (asked : Option Asked) (shelf : ShelfCall)
    (old new : SiteView) (last : End) : Type 0 where
  pub read : Result (List NamedText) End
  pub reads : ReadsTo shelf (files_of asked) read
  pub performs : PerformsBy Holds (work asked read) old new last

-- and then the last line was said
pub record EndedBy (Holds : Start → SiteView → SiteView → End → Type 0) (asked : Option Asked) (shelf : ShelfCall)
    (old new : SiteView) (answer : ℕ) : Type 0 where
  pub last : End
  pub between : SiteView
  pub performed : PerformedBy Holds asked shelf old between last
  pub tells : Tells last between new answer

-- so of a session in this process
abbrev pub Performs : Work → SiteView → SiteView → End → Type 0
Performs = PerformsBy HoldsSession

abbrev pub Performed : Option Asked → ShelfCall → SiteView → SiteView → End → Type 0
Performed = PerformedBy HoldsSession

abbrev pub Ended : Option Asked → ShelfCall → SiteView → SiteView → ℕ → Type 0
Ended = EndedBy HoldsSession
