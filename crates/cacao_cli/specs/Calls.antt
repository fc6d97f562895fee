-- Promise: A call of the program, and what is promised of it.
use Rattle.std.proofs.Common.{inl, inr}
use Rattle.std.specs.Prelude.{◌≡◌, ◌≢◌, ◌⊎◌, ℕ, List, [], ◌∷◌, IsTrue, IfSome, Option, Some, None, ⊤}
use Rattle.cacao_site.specs.View.{SiteView}
use Rattle.cacao_site.specs.declared.parcel.Parcel.{Parcel}
use Rattle.flow_core_rules.specs.Givens.{Given}
use Rattle.flow_engine_answers.specs.declared.answers.OperatorAnswer.{OperatorAnswer}
use Rattle.flow_laws.specs.Good.{IsGood}
use Rattle.flow_world.specs.Sessions.{HasRefused, IsStart}
use Rattle.flow_world_laws.specs.Parcels.{AreHandled, IsOfTaken, Took, but_the_last}
use Rattle.flow_world.specs.WorldError.{WorldError}
use Rattle.cacao_cli_peers.specs.Prefixes.{GoesOn, GoesOnDurably}
use Rattle.cacao_cli_words.specs.Requests.{FleetRequest, PeerRequest, RunRequest, fleet_request, peer_request}
use Rattle.cacao_cli_words.specs.Words.{Text}
use Rattle.cacao_site.specs.Counts.{Rose}
use Rattle.cacao_cli_ends.specs.Asked.{Asked, asked, decides, runs}
use Rattle.cacao_cli_ends.specs.Comes.{ComesExactly, ComesFor, IfFilesTold, IfTold, IsOneOf, file_faults, reached_statuses}
use Rattle.cacao_cli_ends.specs.Ends.{End, ended_failed, flooded, paused}
use Rattle.cacao_cli_ends.specs.FileCauses.{HasTexts, IsMissing, IsTooLong}
use Rattle.cacao_cli_ends.specs.Files.{Files, NamedText, files_of}
use Rattle.cacao_cli_ends.specs.Stays.{SaysAtMostOnce}
use Rattle.cacao_cli_ends.specs.Work.{start_of}
use Rattle.cacao_cli_session.specs.Holding.{CameTo, ClosesSo, RefusesSo}
use Rattle.cacao_cli_session_laws.specs.Completing.{Completes}
use Rattle.cacao_cli_session_laws.specs.Returning.{TellsOnReturn}
use Rattle.cacao_cli_status_laws.specs.Causes.{CanBeDone, EndsAs, EndsAsAnother, EndsAsAsked, EndsAsWaiting, FindsDisagreement, FindsItDamaged, IsPastLimit, IsRefused, IsUnreadable, NamesTooMuch}
use Rattle.cacao_cli_status_laws.specs.Exact.{AnswersExactly}
use Rattle.cacao_cli_status_laws.specs.Leaves.{CountsDisk, Leaves, LeavesAll}
use Rattle.cacao_cli_status_laws.specs.Clocks.{StandsReached, StandsShort}
use Rattle.cacao_cli_status_laws.specs.Statuses.{IsOwnStatus}
use Rattle.cacao_cli_status_laws.specs.Usage.{UsesFew}
use Rattle.cacao_cli_life.specs.Lives.{KeepsAll}

-- what a call was given, and what came of it
pub record Call : Type 0 where
  pub wanted : Option Asked  -- what its words ask of one process
  pub peer : Option PeerRequest  -- what they ask for with a peer
  pub fleet : Option FleetRequest  -- what they ask of a fleet
  pub files : Option Files  -- what the shelf holds, where it tells it
  pub old : SiteView  -- the site when it began
  pub new : SiteView  -- the site on return
  pub status : ℕ

abbrev pub call : List Text → Option Files → SiteView → SiteView → ℕ → Call
call words files old new status = record { wanted = asked words; peer = peer_request words; fleet = fleet_request words; files = files; old = old; new = new; status = status }

-- so it is of a call whose words ask for no fleet and no peer
abbrev pub InOneProcess : (Call → Type 0) → Call → Type 0
InOneProcess P call = call.fleet ≡ None → call.peer ≡ None → P call

-- the headline: where all agrees when the call begins, all that a crash may leave agrees at each of its beats, whatever its status
abbrev pub AgreesAtEachBeat : Call → Type 0
AgreesAtEachBeat call = KeepsAll call.wanted call.old call.new

-- where the files and the disk are told, this status comes of this cause, but for what may stand in its place
abbrev pub ComesOf : Call → ℕ → (Files → Type 0) → Type 0
ComesOf call status cause =
    IfTold call.wanted call.files call.old (λ files. ComesFor call.wanted call.old call.new status (cause files) call.status)

-- where the files are told, this status comes of this cause exactly, but for what reading them comes to
abbrev pub ComesOfFiles : Call → ℕ → (Files → Type 0) → Type 0
ComesOfFiles call status cause =
    IfFilesTold (files_of call.wanted) call.files (λ files. ComesExactly status (file_faults (files_of call.wanted)) (cause files) call.status)

-- `decide` answers 11 by the file of its packets alone, whether the disk is told or not
abbrev pub PastByPackets : Option Asked → Option Files → ℕ → Type 0
PastByPackets (Some (decides agent packets)) told answer =
    IfFilesTold (files_of (Some (decides agent packets))) told (λ files. ComesExactly 11
    (file_faults (files_of (Some (decides agent packets)))) (IsTooLong files (files_of (Some (decides agent packets)))) answer)
PastByPackets other told answer = ⊤

-- Each status says why. Of the shelf's failures (3) and of want of memory (10) the contract speaks itself.
pub record StatusesTell (call : Call) : Type 0 where
  -- the status is the one that the words, the files and the disk call for, or a fault stands in its place
  pub exactly : AnswersExactly call.wanted call.files call.old call.new call.status
  -- each command answers its own statuses alone, whether files and disk are told or not
  pub answers : IsOwnStatus call.wanted call.status
  -- what the words and the files come to
  pub done : ComesOf call 0 (λ files. CanBeDone call.wanted files call.old call.new)
  pub refused : ComesOfFiles call 1 (λ files. IsRefused call.wanted files)
  pub not_understood : ComesExactly 2 (9 ∷ 10 ∷ []) (call.wanted ≡ None) call.status
  pub missing : ComesOfFiles call 4 (λ files. IsMissing files (files_of call.wanted))
  pub unreadable : ComesOfFiles call 5 (λ files. IsUnreadable call.wanted files)
  pub past_limit : ComesOf call 11 (λ files. IsPastLimit call.wanted files call.old call.new)
  pub too_much : IfFilesTold (files_of call.wanted) call.files (λ files.
      NamesTooMuch call.wanted files → IsOneOf call.status (11 ∷ file_faults (files_of call.wanted)))
  pub past_packets : PastByPackets call.wanted call.files call.status
  pub damaged : ComesOf call 13 (λ files. FindsItDamaged call.wanted files call.old call.new)
  pub disagreement : ComesOfFiles call 18 (λ files. FindsDisagreement call.wanted files)
  -- how a run stands
  pub failed : ComesOf call 6 (λ files. EndsAs call.wanted files ended_failed call.old call.new)
  pub pauses : ComesOf call 7 (λ files. EndsAs call.wanted files paused call.old call.new)
  pub another_run : ComesOf call 12 (λ files. EndsAsAnother call.wanted files call.old call.new)
  pub waits : ComesOf call 14 (λ files. EndsAsWaiting call.wanted files call.old call.new)
  pub floods : ComesOf call 15 (λ files. EndsAs call.wanted files flooded call.old call.new)
  pub asks : ComesOf call 16 (λ files. EndsAsAsked call.wanted files call.old call.new)
  -- what failed
  pub disk_failed : call.status ≡ 8 → CountsDisk call.wanted call.old call.new
  pub disk_steady : call.status ≢ 8 → call.status ≢ 9 → call.new.disk.faults ≡ call.old.disk.faults
  pub unsaid : call.status ≡ 9 → Rose call.old.counts.unsaid call.new.counts.unsaid
  pub said : call.status ≢ 9 → call.new.counts.unsaid ≡ call.old.counts.unsaid
  -- Where the status says that the run waits, the clock stands before what it was asked for; where it says that the run ended,
  -- paused, took too many parcels or asks, the clock came to that.
  pub stands_short : call.status ≡ 14 → StandsShort call.wanted call.new
  pub stands_reached : IsOneOf call.status reached_statuses → StandsReached call.wanted call.new

-- the engine's file was opened: the session closed, or it did not refuse that file
abbrev pub opened_by : {error : WorldError} {given : Given} {run most : ℕ} {answers : List OperatorAnswer} {old new : SiteView}
    → HasRefused error given run most answers old new → Type 0
opened_by (inl (inl journal)) = ⊥
opened_by (inl (inr filter)) = ⊤
opened_by (inr later) = ⊤

abbrev pub HasOpened : {given : Given} {run most : ℕ} {answers : List OperatorAnswer} {old new : SiteView} {last : End}
    → ClosesSo given run most answers old new last ⊎ RefusesSo given run most answers old new last → Type 0
HasOpened (inl closes) = ⊤
HasOpened (inr refuses) = opened_by refuses.why

-- the parcels that are handled: all that were taken where the session closed, and all but the last where it refused
abbrev pub handled_of : {A B : Type 0} → A ⊎ B → List (ℕ × Parcel) → List (ℕ × Parcel)
handled_of (inl closes) taken = taken
handled_of (inr refuses) taken = but_the_last taken

-- What a `run` leaves that came to its session: these are the texts of its files, and the session was held with what they give.
-- From a start where all agreed, the engine's file goes on from a run to one that has it as its front; where it was opened and no
-- call of the disk failed, so does each image of it. When the session ended, each command that it took had its act, each final
-- reply its Reply, and each further act and Reply was of a parcel that it took.
pub record LeavesRun (wanted : RunRequest) (told : Option Files) (old new : SiteView) : Type 0 where
  pub texts : List NamedText
  pub has : IfSome told (λ files. HasTexts files wanted texts)
  pub last : End
  pub came : CameTo (start_of wanted texts) last old new
  pub goes_on : IsStart old wanted.run → GoesOn wanted.most old new
  pub durably : IsStart old wanted.run → HasOpened came.session.holds.held → GoesOnDurably wanted.most old new
  pub handled : IsStart old wanted.run → (taken : List (ℕ × Parcel)) → Took old came.between taken
      → AreHandled came.between (handled_of came.session.holds.held taken) × IsOfTaken taken wanted.run old came.between

abbrev pub LeavesByTexts : Option Asked → Option Files → SiteView → SiteView → ℕ → Type 0
LeavesByTexts (Some (runs wanted)) told old new answer = SaysAtMostOnce old new answer ⊎ LeavesRun wanted told old new
LeavesByTexts other told old new answer = ⊤

-- what holds of the site on return
pub record HoldsOnReturn (call : Call) : Type 0 where
  -- what the status of `run` tells of what the files read as, of the clock and of the parcels taken, and they of it
  pub on_return : TellsOnReturn call.wanted call.files call.old call.new call.status
  -- where all agrees when the call begins, no file is told as damaged
  pub undamaged : IsTrue call.old.disk.told → IsGood call.old call.old.disk.beat → call.status ≢ 13
  -- A run that begins where all agrees and that nothing disturbs comes to its end, its budget or a question, unless a limit is
  -- passed, too many parcels change nothing, a named file can't be read, or memory is wanted.
  pub completes : Completes call.wanted call.files call.old call.new call.status
  -- few device calls, and few bytes
  pub uses_few : UsesFew call.wanted call.old call.new
  -- what stays as it was, whatever is asked, and what stays besides by what is asked
  pub stays : LeavesAll call.old call.new call.status
  pub leaves : Leaves call.wanted call.old call.new call.status
  pub by_texts : LeavesByTexts call.wanted call.files call.old call.new call.status
