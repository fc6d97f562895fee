-- Promise: A session takes a run to a run that has it as a prefix.
use Rattle.std.specs.Prelude.{◌≡◌, ℕ, ◌≤◌, List, [], ◌++◌, length}
use Rattle.cacao_site.specs.Counts.{DidNotRise}
use Rattle.cacao_site.specs.DiskCalls.{IsLeft}
use Rattle.cacao_site.specs.Sound.{IsSound}
use Rattle.cacao_site.specs.View.{SiteView}
use Rattle.run_records.specs.declared.record.Record.{Record}
use Rattle.flow_core_rules.specs.Givens.{Given}
use Rattle.flow_engine_answers.specs.declared.answers.OperatorAnswer.{OperatorAnswer}
use Rattle.flow_laws.specs.Images.{IsRecords}
use Rattle.flow_laws.specs.Journals.{IsJournalRun}
use Rattle.flow_world.specs.Sessions.{HasClosed, HasRefused, IsStart, KeepsAgreement, RefusesLater}
use Rattle.flow_world.specs.Openings.{RefusesOpening, RefusesSecond}
use Rattle.flow_world.specs.Close.{Close}
use Rattle.flow_world.specs.WorldError.{WorldError}

-- What a session of at most so many records did to the run. Some image of file 0 at the start stands for `before`; on return
-- the file reads as a run, which is `before` and then `added`. Where no call of the disk failed, the file read as `before` at
-- the start.
pub record GoesOn (most : ℕ) (old new : SiteView) : Type 0 where
  pub before : List Record
  pub image : List ℕ
  pub left : IsLeft old.disk 0 old.disk.beat image
  pub stood : IsRecords image before
  pub from_read : DidNotRise old.disk.faults new.disk.faults → IsRecords (old.disk.reads 0) before
  pub added : List Record
  pub reads : IsRecords (new.disk.reads 0) (before ++ added)
  pub is_run : IsJournalRun (before ++ added)
  pub few : length added ≤ most

-- The same of a session that opened file 0: at the start the file read as `before`; and where no call of the disk failed, each
-- image that a crash may leave of it on return stands for this run.
pub record GoesOnDurably (most : ℕ) (old new : SiteView) : Type 0 where
  pub goes_on : GoesOn most old new
  pub was_read : IsRecords (old.disk.reads 0) goes_on.before
  pub durable : DidNotRise old.disk.faults new.disk.faults → (image : List ℕ) → IsLeft new.disk 0 new.disk.beat image
      → IsRecords image (goes_on.before ++ goes_on.added)

-- the same of a session that did not open all files: it added nothing
pub record AddsNothing (most : ℕ) (old new : SiteView) : Type 0 where
  pub goes_on : GoesOn most old new
  pub none : goes_on.added ≡ []

-- a session may end so from a start where all agreed
abbrev pub FromAStart : (ℕ → SiteView → SiteView → Type 0) → (Given → ℕ → ℕ → List OperatorAnswer → SiteView → SiteView → Type 0) → Type 0
FromAStart Does Ends =
    (given : Given) (run most : ℕ) (answers : List OperatorAnswer) (old new : SiteView) → IsSound old → IsSound new → IsStart old run
    → KeepsAgreement old new → Ends given run most answers old new → Does most old new

-- Each session that closed goes on so, and each that refused once its files were open, or since a filter's file was not; and
-- each that refused. How each record that was added came, and their moments, tells `records_law` of `flow_world_laws`; where
-- the clock came to, `AddsUp` of `flow_world_steps`.
abbrev pub EachCloseGoesOn : Type 0
EachCloseGoesOn = (close : Close) → FromAStart GoesOnDurably (HasClosed close)

abbrev pub EachLaterRefusalGoesOn : Type 0
EachLaterRefusalGoesOn = (error : WorldError) → FromAStart GoesOnDurably (RefusesLater error)

abbrev pub EachSecondRefusalGoesOn : Type 0
EachSecondRefusalGoesOn =
    (error : WorldError) → FromAStart GoesOnDurably (λ given run most answers old new. RefusesSecond error given run old new)

abbrev pub EachRefusalGoesOn : Type 0
EachRefusalGoesOn = (error : WorldError) → FromAStart GoesOn (HasRefused error)

abbrev pub EachRefusedOpeningAddsNothing : Type 0
EachRefusedOpeningAddsNothing =
    (error : WorldError) → FromAStart AddsNothing (λ given run most answers old new. RefusesOpening error given run old new)
