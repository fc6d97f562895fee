-- Promise: A run of the same files ends as `preflight` says, or holds its session where that refuses nothing.
use Rattle.std.specs.Prelude.{◌≡◌, ◌≢◌, ◌⊎◌, false, List, Option, Some, None, IfSome, IsSomeAnd, Result, Ok}
use Rattle.cacao_site.specs.View.{SiteView}
use Rattle.cacao_cli_words.specs.Requests.{RunRequest}
use Rattle.cacao_cli_words.specs.Words.{Text}
use Rattle.cacao_cli_ends.specs.Asked.{runs}
use Rattle.cacao_cli_ends.specs.Ends.{End, done, status_of}
use Rattle.cacao_cli_ends.specs.FileCauses.{HasTexts}
use Rattle.cacao_cli_ends.specs.Files.{Files, NamedText, ShelfCall, has_too_many}
use Rattle.cacao_cli_ends.specs.Work.{start_of}
use Rattle.cacao_cli_session.specs.Holding.{HoldsSession}
use Rattle.cacao_cli_status_laws.specs.Ended.{Performed}
use Rattle.cacao_view.specs.Flying.{FliesBooks}

-- a read of a file failed, or memory was wanted
abbrev pub IsFault : End → Type 0
IsFault end = (status_of end ≡ 3) ⊎ (status_of end ≡ 10)

-- the run was refused: it ended so, with nothing done
pub record IsRefusedSo (end : End) (old new : SiteView) (last : End) : Type 0 where
  pub refusal : end ≢ done
  pub ends : last ≡ end
  pub same : new ≡ old

-- these texts were read, of no more playbooks than the limit; of a shelf that tells its files, they are those of the files
pub record HasRead (wanted : RunRequest) (told : Option Files) (read : Result (List NamedText) End) (texts : List NamedText) : Type 0 where
  pub few : has_too_many (runs wanted) ≡ false
  pub are : read ≡ Ok texts
  pub has : IfSome told (λ files. HasTexts files wanted texts)

-- nothing was refused, and a session was held with what the texts give that were read
pub record HoldsItsSession (wanted : RunRequest) (told : Option Files) (read : Result (List NamedText) End) (end : End)
    (old new : SiteView) (last : End) : Type 0 where
  pub ready : end ≡ done
  pub texts : List NamedText
  pub texts_are : HasRead wanted told read texts
  pub holds : HoldsSession (start_of wanted texts) old new last

-- the run came to a fault before its session, with nothing done
pub record IsCutOff (old new : SiteView) (last : End) : Type 0 where
  pub fault : IsFault last
  pub same : new ≡ old

-- what is told of a run, and how it went, but for faults
abbrev pub IsForetold : RunRequest → Option Files → Result (List NamedText) End → End → SiteView → SiteView → End → Type 0
IsForetold wanted told read end old new last =
    (IsRefusedSo end old new last ⊎ HoldsItsSession wanted told read end old new last) ⊎ (IsFault end ⊎ IsCutOff old new last)

-- both calls read the same: the shelf tells the same files to both, or both reads came to the same
abbrev pub ReadAlike : ShelfCall → ShelfCall → Result (List NamedText) End → Result (List NamedText) End → Type 0
ReadAlike seen shelf foreseen read = IsSomeAnd seen.told (λ files. shelf.told ≡ Some files) ⊎ (foreseen ≡ read)

-- `preflight` told these lines and this end, for the playbooks and the bindings of a run; and the run, which has no answers, read
-- the same and was done up to its last line. So, but for faults, a run is refused exactly where `preflight` refuses it, with the
-- same end, and where it refuses nothing the run holds its session with the texts that were read.
abbrev pub ForetellsRuns : Type 0
ForetellsRuns =
    (wanted : RunRequest) (seen shelf : ShelfCall) (lines : List Text) (end : End) (old new : SiteView) (last : End)
    → wanted.answers ≡ None
    → (flight : FliesBooks wanted.bind wanted.books seen lines end) → (run : Performed (Some (runs wanted)) shelf old new last)
    → ReadAlike seen shelf flight.read run.read
    → IsForetold wanted shelf.told run.read end old new last
