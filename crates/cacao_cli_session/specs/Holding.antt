-- Promise: A session, from the texts that were read.
use Rattle.std.specs.Prelude.{◌≡◌, ◌⊎◌, ℕ, Bool, true, false, List, Some}
use Rattle.cacao_check.specs.Fits.{FitsKind}
use Rattle.cacao_check.specs.declared.breaks.Break.{Break}
use Rattle.cacao_site.specs.Sound.{IsSound}
use Rattle.cacao_site.specs.View.{SiteView}
use Rattle.flow_core_rules.specs.Accepted.{Accepted}
use Rattle.flow_core_rules.specs.Givens.{Given}
use Rattle.flow_core.specs.SetupReading.{BreaksBindRule, BreaksRule}
use Rattle.flow_core.specs.Setups.{AreAccepted}
use Rattle.flow_core.specs.declared.flow_errors.LimitKind.{LimitKind}
use Rattle.flow_core.specs.declared.flow_errors.LimitKind.TheVariants as kind
use Rattle.flow_engine_answers.specs.Answers.{IsFirstBadLine}
use Rattle.flow_engine_answers.specs.Answers as told
use Rattle.flow_engine_answers.specs.declared.answers.OperatorAnswer.{OperatorAnswer}
use Rattle.flow_world.specs.Sessions.{HasClosed, HasRefused, IsStart, KeepsAgreement}
use Rattle.flow_world.specs.Close.{Close}
use Rattle.flow_world.specs.Close.TheVariants as close
use Rattle.flow_world.specs.WorldError.{WorldError}
use Rattle.flow_world.specs.WorldError.TheVariants as error
use Rattle.cacao_cli_ends.specs.Ends.{End, refused, bind_refused, ended_ok, ended_failed, paused, waiting, flooded, asked_for}
use Rattle.cacao_cli_ends.specs.Ends.{other_run, other_book, run_used, past, not_readable, damaged, disk_failed, unsaid}
use Rattle.cacao_cli_ends.specs.Ends.{no_memory}
use Rattle.cacao_cli_ends.specs.Files.{NamedText}
use Rattle.cacao_cli_ends.specs.Lines.{SaysAtMostALine}
use Rattle.cacao_cli_ends.specs.Work.{Start, bytes_of}
use Rattle.cacao_cli_ends.specs.declared.limit.Limit.{Limit}
use Rattle.cacao_cli_ends.specs.declared.limit.Limit.TheVariants.{TaskCount, JournalBytes, LastMoment, CommandBytes}
use Rattle.cacao_cli_ends.specs.declared.reason.Reason.TheVariants.{Line}

-- ---- how a call ends that held a session

abbrev pub limit_of : LimitKind → Limit
limit_of kind.Journal = JournalBytes
limit_of kind.Tasks = TaskCount
limit_of kind.Moment = LastMoment
limit_of kind.Command = CommandBytes

abbrev pub well_end : Bool → End
well_end true = ended_ok
well_end false = ended_failed

abbrev pub close_end : Close → End
close_end (close.Ended well) = well_end well
close_end close.Paused = paused
close_end (close.Waiting moment) = waiting moment
close_end close.Flooded = flooded
close_end (close.Asked issue) = asked_for issue

abbrev pub error_end : WorldError → End
error_end error.Disk = disk_failed
error_end (error.Damaged file place) = damaged file place
error_end (error.OtherRun held asked) = other_run held asked
error_end (error.OtherBook index) = other_book index
error_end (error.RunUsed agent) = run_used agent
error_end (error.Limit what) = past (limit_of what)
error_end error.Say = unsaid
error_end error.Memory = no_memory

-- ---- what came before it

-- a line of the answers is none, and this is the first such line
pub record TellsBadLine (start : Start) (old new : SiteView) (last : End) : Type 0 where
  pub text : NamedText
  pub is : start.answers ≡ Some text
  pub number : ℕ
  pub bad : IsFirstBadLine text.bytes number
  pub same : new ≡ old
  pub ends : last ≡ not_readable text.name (Line number)

-- the answers for the run
abbrev pub AreAnswers : Start → List OperatorAnswer → Type 0
AreAnswers start answers = told.Answers (bytes_of start.answers) start.run answers

-- a rule of playbooks is broken, and this is the first break; or the least rule of bindings
pub record TellsBookBreak (start : Start) (old new : SiteView) (last : End) : Type 0 where
  pub answers : List OperatorAnswer
  pub are : AreAnswers start answers
  pub broken : Break
  pub breaks : BreaksRule start.books start.bind broken
  pub same : new ≡ old
  pub ends : last ≡ refused broken

pub record TellsBindBreak (start : Start) (old new : SiteView) (last : End) : Type 0 where
  pub answers : List OperatorAnswer
  pub are : AreAnswers start answers
  pub rule : ℕ
  pub breaks : BreaksBindRule start.books start.bind rule
  pub same : new ≡ old
  pub ends : last ≡ bind_refused rule

-- memory was wanted before the session
pub record WantsToStart (old new : SiteView) (last : End) : Type 0 where
  pub same : new ≡ old
  pub ends : last ≡ no_memory

-- ---- the session

-- it closed, or a call refused
pub record ClosesSo (given : Given) (run most : ℕ) (answers : List OperatorAnswer) (old new : SiteView)
    (last : End) : Type 0 where
  pub close : Close
  pub closed : HasClosed close given run most answers old new
  pub ends : last ≡ close_end close

pub record RefusesSo (given : Given) (run most : ℕ) (answers : List OperatorAnswer) (old new : SiteView)
    (last : End) : Type 0 where
  pub error : WorldError
  pub why : HasRefused error given run most answers old new
  pub ends : last ≡ error_end error

-- And all agrees at each beat, where it did when the session began. What the session came to is sound, as each site is: what the
-- laws of sessions ask.
pub record HoldsSo (given : Given) (run most : ℕ) (answers : List OperatorAnswer) (old new : SiteView) (last : End) : Type 0 where
  pub held : ClosesSo given run most answers old new last ⊎ RefusesSo given run most answers old new last
  pub agreement : IsStart old run → KeepsAgreement old new
  pub sound : IsSound new

-- The texts were accepted, and a session was held with what they give: the lines of its records were said.
pub record HoldsSession (start : Start) (old new : SiteView) (last : End) : Type 0 where
  pub answers : List OperatorAnswer
  pub are : AreAnswers start answers
  pub given : Given
  pub accepted : Accepted AreAccepted FitsKind start.books start.bind given
  pub holds : HoldsSo given start.run start.most answers old new last

-- such a session came to this end, and behind it one line was said at most
pub record CameTo (start : Start) (last : End) (old new : SiteView) : Type 0 where
  pub between : SiteView
  pub session : HoldsSession start old between last
  pub behind : SaysAtMostALine between new

-- ---- what the texts settle

-- a line of the answers is none
abbrev pub HasBadAnswer : Start → Type 0
HasBadAnswer start = (text : NamedText) × (start.answers ≡ Some text) × (number : ℕ) × IsFirstBadLine text.bytes number

-- each line of them is one
abbrev pub HasAnswers : Start → Type 0
HasAnswers start = (answers : List OperatorAnswer) × AreAnswers start answers

-- and a rule of playbooks or bindings is broken, or none is
abbrev pub IsRefusedStart : Start → Type 0
IsRefusedStart start =
    HasAnswers start
    × (((broken : Break) × BreaksRule start.books start.bind broken) ⊎ ((rule : ℕ) × BreaksBindRule start.books start.bind rule))

abbrev pub IsAcceptedStart : Start → Type 0
IsAcceptedStart start = HasAnswers start × ((given : Given) × Accepted AreAccepted FitsKind start.books start.bind given)
