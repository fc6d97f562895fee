-- Promise: What comes of a start where all agrees: a run that nothing disturbs comes to its end, its budget or a question, unless a limit
-- is passed, too many parcels change nothing, a named file can't be read, or memory is wanted; and where no parcel was lost, what
-- was sent was answered.
use Rattle.std.specs.Prelude.{◌≡◌, ◌≢◌, ◌⊎◌, ℕ, List, [], ◌∷◌, ◌++◌, Contains, Option, Some, None, ⊤}
use Rattle.cacao_check.specs.Fits.{FitsKind}
use Rattle.cacao_site.specs.Counts.{DidNotRise}
use Rattle.cacao_site.specs.DiskCalls.{IsLeft}
use Rattle.cacao_site.specs.View.{SiteView}
use Rattle.run_journal.specs.Layout.{Stands}
use Rattle.run_records.specs.declared.act.Act.{Act}
use Rattle.run_records.specs.declared.record.Record.{Record}
use Rattle.run_records.specs.declared.record.Record.TheVariants as entry
use Rattle.flow_core.specs.Setups.{AreAccepted}
use Rattle.flow_core_rules.specs.Accepted.{Accepted}
use Rattle.flow_core_rules.specs.Givens.{Given}
use Rattle.flow_laws.specs.Acts.{HasReply, ReadsAs}
use Rattle.flow_laws.specs.Images.{IsActs, IsAgent, IsRecords}
use Rattle.flow_world_steps.specs.Complete.{IsNoExpire}
use Rattle.flow_world.specs.Sessions.{IsStart}
use Rattle.flow_world_laws.specs.Complete.{IsForThisRun, IsUndisturbed}
use Rattle.cacao_cli_ends.specs.Asked.{Asked, canonises, checks, runs, shows, lists_rules, decides, shadows, rehearses, audits}
use Rattle.cacao_cli_ends.specs.FileCauses.{HasTexts, HasTrees}
use Rattle.cacao_cli_ends.specs.Comes.{IfFilesTold, IsOneOf}
use Rattle.cacao_cli_ends.specs.Files.{Files, NamedText, files_of}
use Rattle.cacao_cli_session.specs.Holding.{HasAnswers}
use Rattle.cacao_cli_ends.specs.Work.{Start, start_of}

-- ---- where it begins

-- Each line of the answers is one, and the texts are accepted; each image that a crash may leave of file 0 is empty, or begins
-- with the Begin of this run with these texts.
pub record HasOwnFile (start : Start) (site : SiteView) : Type 0 where
  pub answers : HasAnswers start
  pub given : Given
  pub accepted : Accepted AreAccepted FitsKind start.books start.bind given
  pub for_this : IsForThisRun given start.run site

-- ---- what was answered

-- The records of file 0 are those that it had when the call began, and others, of which none is an Expire. Those that it had are
-- of what it read as then, and only where a call of the disk failed perhaps of another image that a crash might have left.
pub record AddsNoExpire (old new : SiteView) : Type 0 where
  pub image : List ℕ
  pub left : IsLeft old.disk 0 old.disk.beat image
  pub same : DidNotRise old.disk.faults new.disk.faults → image ≡ old.disk.reads 0
  pub before : List Record
  pub had : IsRecords image before
  pub added : List Record
  pub has : IsRecords (new.disk.reads 0) (before ++ added)
  pub none : (front back : List Record) (r : Record) → added ≡ front ++ r ∷ back → IsNoExpire r

-- file 0 has no record
abbrev pub FileHasNoRecord : SiteView → Type 0
FileHasNoRecord site = Stands (site.disk.reads 0) []

-- a Reply of the issue is among the records, and the file of the agent has the act of the run and issue on this command, whose
-- reply reads as the Reply says
pub record IsDone (run : ℕ) (records : List Record) (site : SiteView) (issue agent : ℕ) (bytes : List ℕ) : Type 0 where
  pub moment : ℕ
  pub status : ℕ
  pub rule : ℕ
  pub text : List ℕ
  pub replied : Contains records (entry.Reply issue moment status rule text)
  pub of_agent : IsAgent agent
  pub acts : List Act
  pub are : IsActs (site.disk.reads agent) acts
  pub reply : HasReply acts run issue (ReadsAs status rule text)
  pub command : reply.act.command ≡ bytes

-- so it is of each Send of file 0
abbrev pub EachSendIsDone : ℕ → SiteView → Type 0
EachSendIsDone run site =
    (records : List Record) → IsRecords (site.disk.reads 0) records → (task issue agent moment : ℕ) (bytes : List ℕ)
    → Contains records (entry.Send task issue agent moment bytes) → IsDone run records site issue agent bytes

-- ---- to the end

-- From there, no run is told as another's. Where besides no call of the disk failed, each line was said, and the clock came to
-- each moment that it was asked for: the run has ended well (0) or failed (6), as many records were appended as may be (7), an
-- operator is asked (16), 1,000,000 parcels changed nothing (15), a limit would be passed (11), memory was wanted (10), or a
-- named file could not be read (3). Where no parcel was lost, doubled or held back, no Expire was appended, whatever the status;
-- and where besides file 0 had no record and the run has ended, each Send has its act and its Reply.
pub record CompletesSo (start : Start) (old new : SiteView) (answer : ℕ) : Type 0 where
  pub no_other : HasOwnFile start old → answer ≢ 12
  pub to_end : HasOwnFile start old → IsUndisturbed old new
      → IsOneOf answer (0 ∷ 6 ∷ 7 ∷ 16 ∷ 15 ∷ 11 ∷ 10 ∷ 3 ∷ [])
  pub none_expires : DidNotRise old.counts.mishaps new.counts.mishaps → AddsNoExpire old new
  pub sends_done : DidNotRise old.counts.mishaps new.counts.mishaps → FileHasNoRecord old → (answer ≡ 0) ⊎ (answer ≡ 6)
      → EachSendIsDone start.run new

-- of `run`, with the texts of its files, each of which has a tree where it wants one
abbrev pub Completes : Option Asked → Option Files → SiteView → SiteView → ℕ → Type 0
Completes None told old new answer = ⊤
Completes (Some (canonises book)) told old new answer = ⊤
Completes (Some (checks books)) told old new answer = ⊤
Completes (Some (runs wanted)) told old new answer =
    IsStart old wanted.run → IfFilesTold (files_of (Some (runs wanted))) told (λ files.
    (texts : List NamedText) → HasTexts files wanted texts → HasTrees wanted texts
    → CompletesSo (start_of wanted texts) old new answer)
Completes (Some shows) told old new answer = ⊤
Completes (Some (lists_rules agent)) told old new answer = ⊤
Completes (Some (decides agent packets)) told old new answer = ⊤
Completes (Some (shadows agent)) told old new answer = ⊤
Completes (Some (rehearses positions)) told old new answer = ⊤
Completes (Some (audits engine filters)) told old new answer = ⊤
