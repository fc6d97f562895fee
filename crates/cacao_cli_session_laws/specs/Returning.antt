-- Promise: What the status of `run` and what the files read as, the clock and the parcels taken tell of each other on return.
use Rattle.std.specs.Prelude.{◌≡◌, ◌≢◌, ◌⊎◌, ℕ, ◌+◌, ◌<◌, ◌≤◌, IsTrue, List, [], ◌∷◌, ◌++◌, length, All, Any, slice_get, Option}
use Rattle.std.specs.Prelude.{Some, None, IfSome, IsSome, Bool, true, false, nat_lt, if◌then◌else◌, ⊤}
use Rattle.std.specs.List.{AllByRecursion}
use Rattle.std.specs.Option.{option_or}
use Rattle.cacao_check.specs.Fits.{FitsKind}
use Rattle.cacao_site.specs.Counts.{DidNotRise}
use Rattle.cacao_site.specs.DiskCalls.{AllLeft}
use Rattle.cacao_site.specs.View.{ClockView, SiteView}
use Rattle.cacao_site.specs.declared.parcel.Parcel.{Parcel}
use Rattle.oc2_msg.specs.Responses as responses
use Rattle.oc2_msg.specs.declared.answers.Answer.{Answer}
use Rattle.run_journal.specs.Layout.{most_image}
use Rattle.run_records.specs.Ranges.{last_moment}
use Rattle.run_records.specs.declared.act.Act.{Act}
use Rattle.run_records.specs.declared.record.Record.{Record}
use Rattle.run_records.specs.declared.record.Record.TheVariants as entry
use Rattle.flow_core.specs.Setups.{AreAccepted}
use Rattle.flow_core.specs.Views.{passed, taken}
use Rattle.flow_core.specs.declared.flow_errors.LimitKind.TheVariants as limit
use Rattle.flow_core_rules.specs.Accepted.{Accepted}
use Rattle.flow_core_rules.specs.Changes.{is_waiting, moment_of, outcome}
use Rattle.flow_core_rules.specs.Edits.{Edit}
use Rattle.flow_core_rules.specs.Givens.{Given}
use Rattle.flow_core_rules.specs.Moves.{asks, due, enabled_move, record_of}
use Rattle.flow_core_rules.specs.State.{Shown}
use Rattle.flow_core_rules.specs.declared.issues.Issue.{Issue}
use Rattle.flow_core_rules.specs.declared.moves.Move.{Move}
use Rattle.flow_engine_history.specs.HistoryView.{length_with}
use Rattle.flow_engine_history.specs.Openings.{RefusesAsEntries, RefusesImage}
use Rattle.flow_engine_answers.specs.declared.answers.OperatorAnswer.{OperatorAnswer}
use Rattle.flow_engine_history.specs.declared.error.EngineError.TheVariants as refused
use Rattle.flow_engine.specs.EngineCalls.{IsWaiting}
use Rattle.flow_engine.specs.OpenIssues.{resend_after}
use Rattle.flow_laws.specs.Images.{IsActs, IsAgent, IsRecords}
use Rattle.flow_world_steps.specs.Grown.{acts_of}
use Rattle.flow_world_steps.specs.Handled.{IsBack, IsCommand, one_reply}
use Rattle.flow_world_steps.specs.Sums.{total}
use Rattle.flow_world_steps.specs.Turns.{answer_for, most_ignored}
use Rattle.slpf_actuator.specs.ActLists.{HasActed, IsNew}
use Rattle.slpf_actuator.specs.ActLists as act_file
use Rattle.slpf_actuator.specs.ActuatorView.{act_for}
use Rattle.slpf_actuator.specs.Damage.{IsDamaged}
use Rattle.flow_world_laws.specs.Returned.{ReadsAsRun}
use Rattle.flow_world_laws.specs.Undamaged.{IsDamagedFor}
use Rattle.cacao_cli_ends.specs.Asked.{Asked, canonises, checks, runs, shows, lists_rules, decides, shadows, rehearses, audits}
use Rattle.cacao_cli_ends.specs.FileCauses.{HasTexts}
use Rattle.cacao_cli_ends.specs.Comes.{IfFilesTold, IsOneOf, closed_statuses, reached_statuses}
use Rattle.cacao_cli_ends.specs.Files.{Files, NamedText, files_of}
use Rattle.cacao_cli_session.specs.Holding.{AreAnswers, IsAcceptedStart}
use Rattle.cacao_cli_ends.specs.Work.{Start, start_of}

-- ---- how the file reads

-- It reads as a run of what the texts give, under this number, which ended so, or goes on. (A file without records counts as one
-- that goes on.)
pub record ReadsSo (start : Start) (how : Option Bool) (site : SiteView) : Type 0 where
  pub given : Given
  pub accepted : Accepted AreAccepted FitsKind start.books start.bind given
  pub seen : Shown
  pub reads : ReadsAsRun given start.run site seen
  pub outcome_is : outcome seen.lists ≡ how

-- its records are those that it had when the call began, and so many more
pub record GainsRecords (many : ℕ) (old new : SiteView) : Type 0 where
  pub before : List Record
  pub had : IsRecords (old.disk.reads 0) before
  pub added : List Record
  pub has : IsRecords (new.disk.reads 0) (before ++ added)
  pub as_many : length added ≡ many

-- The file holds these records, and not more behind them than one session may append.
pub record HasMore (most : ℕ) (records : List Record) (site : SiteView) : Type 0 where
  pub added : List Record
  pub has : IsRecords (site.disk.reads 0) (records ++ added)
  pub within : length added ≤ most

-- so it is of the records that it had, where no call of the disk failed
abbrev pub KeepsRecords : ℕ → SiteView → SiteView → Type 0
KeepsRecords most old new =
    DidNotRise old.disk.faults new.disk.faults → (records : List Record) → IsRecords (old.disk.reads 0) records
    → HasMore most records new

-- each image that a crash may leave of it holds all the records that it reads as
abbrev pub LeavesRecords : SiteView → Type 0
LeavesRecords site = AllLeft 0 site.disk (λ image.
    (records : List Record) → IsRecords (site.disk.reads 0) records → IsRecords image records)

-- it has not more records more than one session may append, and a crash leaves them all
pub record KeepsWithin (start : Start) (old new : SiteView) : Type 0 where
  pub many : ℕ
  pub gains : GainsRecords many old new
  pub within : many ≤ start.most
  pub crash : LeavesRecords new

-- it goes on, with as many records more as one session may append
abbrev pub PausesSo : Start → SiteView → SiteView → Type 0
PausesSo start old new = ReadsSo start None new × GainsRecords start.most old new

-- it has begun and goes on, and a record more may be appended
pub record CanGoOn (start : Start) (old new : SiteView) : Type 0 where
  pub goes_on : ReadsSo start None new
  pub begun : goes_on.reads.records ≢ []
  pub many : ℕ
  pub gains : GainsRecords many old new
  pub fewer : many < start.most

-- the acts of an agent's file are those that it had when the call began, and these
pub record GainsActs (agent : ℕ) (acts : List Act) (old new : SiteView) : Type 0 where
  pub before : List Act
  pub had : IsActs (old.disk.reads agent) before
  pub has : IsActs (new.disk.reads agent) (before ++ acts)

-- each agent's file keeps its acts, and may have others behind them, where no call of the disk failed
abbrev pub KeepsActs : SiteView → SiteView → Type 0
KeepsActs old new =
    DidNotRise old.disk.faults new.disk.faults → (agent : ℕ) → IsAgent agent → (before : List Act)
    → IsActs (old.disk.reads agent) before → (acts : List Act) × GainsActs agent acts old new

-- the file of the parcel's agent has an act of its run and issue
pub record HasActFor (parcel : Parcel) (site : SiteView) : Type 0 where
  pub acts : List Act
  pub are : IsActs (site.disk.reads parcel.agent) acts
  pub act : Act
  pub has : HasActed acts parcel.run parcel.issue act

-- so it is of each command that was taken in between, where the parcels taken are told
abbrev pub ActsOnAll : SiteView → SiteView → Type 0
ActsOnAll old new = IfSome old.link.taken (λ before. IfSome new.link.taken (λ after.
    (since : List (ℕ × Parcel)) → after ≡ before ++ since → All (λ e. IsCommand e.1 → HasActFor e.1 new) since))

-- The run can go on; these acts are what the agents' files gained; and where the parcels taken are told, 1,000,000 were taken
-- beside one for each Reply and each of these acts.
pub record FloodsSo (start : Start) (old new : SiteView) : Type 0 where
  pub may : CanGoOn start old new
  pub acted : List (ℕ × Act)
  pub of_agents : AllByRecursion (λ e. IsAgent e.0) acted
  pub gained : (agent : ℕ) → IsAgent agent → GainsActs agent (acts_of agent acted) old new
  pub taken : IfSome old.link.taken (λ before. IfSome new.link.taken (λ after.
      length after ≡ length before + (most_ignored + total one_reply may.gains.added + length acted)))

-- now no move is enabled, and no issue that waits has an answer among those that the file of answers has for the run
pub record IsIdleNow (start : Start) (seen : Shown) (now : ℕ) : Type 0 where
  pub no_move : enabled_move seen now ≡ None
  pub answers : List OperatorAnswer
  pub are : AreAnswers start answers
  pub unanswered : (issue : ℕ) (it : Issue) → slice_get seen.lists.issues issue ≡ Some it → is_waiting it.phase ≡ true
      → answer_for answers issue ≡ None

-- and it waits for an operator alone: it is idle, nothing is due, and this is the least question
pub record AsksSo (start : Start) (old new : SiteView) : Type 0 where
  pub may : CanGoOn start old new
  pub idle : IsIdleNow start may.goes_on.seen new.clock.now
  pub nothing_due : due may.goes_on.seen ≡ None
  pub issue : ℕ
  pub least : asks may.goes_on.seen ≡ Some issue

-- ---- the moment that is waited for

-- it is that of the last record, 0 where there is none, and no record was appended
pub record WaitsFirst (start : Start) (old new : SiteView) : Type 0 where
  pub none : GainsRecords 0 old new
  pub how : Option Bool
  pub reads : ReadsSo start how new
  pub last : new.clock.asked ≡ reads.seen.moment

-- an issue of a filter waits, and the moment comes before what is due, at most 5,000 milliseconds from now
pub record IsResend (seen : Shown) (clock : ClockView) : Type 0 where
  pub issue : ℕ
  pub it : Issue
  pub waiting : IsWaiting seen issue it
  pub near : clock.asked ≤ clock.now + resend_after
  pub at : ℕ
  pub due_is : due seen ≡ Some at
  pub early : clock.asked < at

-- the run may go on and is idle, and the moment is what is due, or that of a resend
pub record WaitsInTurn (start : Start) (old new : SiteView) : Type 0 where
  pub may : CanGoOn start old new
  pub idle : IsIdleNow start may.goes_on.seen new.clock.now
  pub what : (due may.goes_on.seen ≡ Some new.clock.asked) ⊎ IsResend may.goes_on.seen new.clock

abbrev pub WaitsSo : Start → SiteView → SiteView → Type 0
WaitsSo start old new = (new.clock.now < new.clock.asked) × (WaitsFirst start old new ⊎ WaitsInTurn start old new)

-- ---- files of no run, or of another

-- it begins with the Begin of another run, or of this one with other texts than what is given
abbrev pub BeginsAnother : Given → ℕ → List ℕ → Type 0
BeginsAnother given run image =
    ((held : ℕ) × RefusesAsEntries given run image (refused.OtherRun held run))
    ⊎ ((index : ℕ) × RefusesAsEntries given run image (refused.OtherBook index))

pub record ReadsAsAnother (start : Start) (site : SiteView) : Type 0 where
  pub given : Given
  pub accepted : Accepted AreAccepted FitsKind start.books start.bind given
  pub begins : BeginsAnother given start.run (site.disk.reads 0)

-- it is damaged, or holds no run of what is given
pub record ReadsAsDamaged (start : Start) (site : SiteView) : Type 0 where
  pub given : Given
  pub accepted : Accepted AreAccepted FitsKind start.books start.bind given
  pub place : ℕ
  pub damaged : IsDamagedFor given start.run (site.disk.reads 0) place

-- its run would have more than 1,000,000 tasks
pub record ReadsTooLarge (start : Start) (site : SiteView) : Type 0 where
  pub given : Given
  pub accepted : Accepted AreAccepted FitsKind start.books start.bind given
  pub large : RefusesImage given start.run (site.disk.reads 0) (refused.Limit limit.Tasks)

-- the file of this agent is damaged
pub record HasDamagedFilter (start : Start) (site : SiteView) : Type 0 where
  pub given : Given
  pub accepted : Accepted AreAccepted FitsKind start.books start.bind given
  pub agent : ℕ
  pub of_agent : IsAgent agent
  pub place : ℕ
  pub damaged : IsDamaged (site.disk.reads agent) place

-- it has no record, and the file of this agent has an act of the run
pub record FindsUsed (start : Start) (site : SiteView) : Type 0 where
  pub given : Given
  pub accepted : Accepted AreAccepted FitsKind start.books start.bind given
  pub blank : IsRecords (site.disk.reads 0) []
  pub agent : ℕ
  pub of_agent : IsAgent agent
  pub acts : List Act
  pub are : IsActs (site.disk.reads agent) acts
  pub has : Any (λ (act : Act). act.run ≡ start.run) acts

-- and no file of a lower agent has one
pub record FindsFirstUsed (start : Start) (site : SiteView) : Type 0 where
  pub used : FindsUsed start site
  pub least : (lower : ℕ) → IsAgent lower → lower < used.agent → (acts : List Act) → IsActs (site.disk.reads lower) acts
      → Any (λ (act : Act). act.run ≡ start.run) acts → ⊥

-- ---- what would pass a limit

-- the clock is past the limit on moments
pub record IsLateSo (start : Start) (new : SiteView) : Type 0 where
  pub how : Option Bool
  pub reads : ReadsSo start how new
  pub late : last_moment < new.clock.now

-- The run goes on, also one that has not begun, and a record more may be appended; and the clock came to the moment that it was
-- asked for last.
pub record CouldAppend (start : Start) (old new : SiteView) : Type 0 where
  pub goes_on : ReadsSo start None new
  pub many : ℕ
  pub gains : GainsRecords many old new
  pub fewer : many < start.most
  pub reached : new.clock.asked ≤ new.clock.now

-- The run could take a record more, and is idle, and what is due is past the limit on moments.
pub record DuePasses (start : Start) (old new : SiteView) : Type 0 where
  pub could : CouldAppend start old new
  pub idle : IsIdleNow start could.goes_on.seen new.clock.now
  pub at : ℕ
  pub due_is : due could.goes_on.seen ≡ Some at
  pub late : last_moment < at

-- the parcel is the last that was taken in between, where those taken are told
abbrev pub IsTakenLast : Parcel → Option (List (ℕ × Parcel)) → Option (List (ℕ × Parcel)) → Type 0
IsTakenLast parcel old new = IfSome old (λ before. IfSome new (λ after.
    (front : List (ℕ × Parcel)) × (beat : ℕ) × (after ≡ before ++ (front ++ (beat, parcel) ∷ []))))

-- the record is that of the enabled move
abbrev pub IsOfEnabledMove : Shown → ℕ → Record → Type 0
IsOfEnabledMove seen now next = (move : Move) × (enabled_move seen now ≡ Some move) × (record_of seen now move ≡ Some next)

-- Now no move is enabled, and this is the least issue that waits and has an answer among those that the file of answers has for
-- the run.
pub record IsToldNext (start : Start) (seen : Shown) (now issue : ℕ) (told : OperatorAnswer) : Type 0 where
  pub no_move : enabled_move seen now ≡ None
  pub answers : List OperatorAnswer
  pub are : AreAnswers start answers
  pub it : Issue
  pub there : slice_get seen.lists.issues issue ≡ Some it
  pub waits : is_waiting it.phase ≡ true
  pub first : answer_for answers issue ≡ Some told
  pub least : (lower : ℕ) (other : Issue) → lower < issue → slice_get seen.lists.issues lower ≡ Some other
      → is_waiting other.phase ≡ true → answer_for answers lower ≡ None

-- a reply of this run to this issue, which waits, was taken last: it came from the issue's agent, and its bytes read as such an
-- answer, with a status other than 102
pub record IsRepliedLast (start : Start) (seen : Shown) (issue : ℕ) (read : Answer)
    (before after : Option (List (ℕ × Parcel))) : Type 0 where
  pub parcel : Parcel
  pub is_back : IsBack parcel
  pub of_run : parcel.run ≡ start.run
  pub of_issue : parcel.issue ≡ issue
  pub it : Issue
  pub waiting : IsWaiting seen issue it
  pub of_agent : parcel.agent ≡ it.agent
  pub reads : responses.answer parcel.bytes ≡ Some read
  pub final : read.status ≢ 102
  pub taken_last : IsTakenLast parcel before after

-- where the parcels taken are told, the last one is no such reply
abbrev pub LeavesNoReply : Start → SiteView → SiteView → Type 0
LeavesNoReply start old new = IsSome old.link.taken → (r : ReadsSo start None new) (issue : ℕ) (read : Answer)
    → IsRepliedLast start r.seen issue read old.link.taken new.link.taken → ⊥

-- The record comes next in a turn: that of the enabled move; where there is none, that of the least issue with an answer, which
-- may need the Upgrade first; where no issue has one, an Expire; and a Reply as the parcel says that was taken last.
abbrev pub ComesInTurn : Start → Option (List (ℕ × Parcel)) → Option (List (ℕ × Parcel)) → Shown → ℕ → Record → Type 0
ComesInTurn start before after seen now (entry.Begin run moment books bind) = ⊤
ComesInTurn start before after seen now (entry.Walk task moment) = IsOfEnabledMove seen now (entry.Walk task moment)
ComesInTurn start before after seen now (entry.Send task issue agent moment bytes) =
    IsOfEnabledMove seen now (entry.Send task issue agent moment bytes)
ComesInTurn start before after seen now (entry.Reply issue moment status rule text) =
    IsRepliedLast start seen issue (record { status = status; rule = rule; text = text }) before after
ComesInTurn start before after seen now (entry.Expire issue moment) = IsIdleNow start seen now
ComesInTurn start before after seen now (entry.Upgrade version moment) =
    IsOfEnabledMove seen now (entry.Upgrade version moment)
    ⊎ ((issue : ℕ) × (told : OperatorAnswer) × IsToldNext start seen now issue told)
ComesInTurn start before after seen now (entry.Ask task issue moment bytes) =
    IsOfEnabledMove seen now (entry.Ask task issue moment bytes)
ComesInTurn start before after seen now (entry.Told issue moment status text) =
    (told : OperatorAnswer) × IsToldNext start seen now issue told × (told.status ≡ status) × (told.text ≡ text)

-- The run could take a record more, and the one that comes next, now, would make too many tasks, send too long a command, or make
-- the file too long.
pub record NextPasses (start : Start) (old new : SiteView) : Type 0 where
  pub could : CouldAppend start old new
  pub next : Record
  pub edits : List Edit
  pub now : moment_of next ≡ new.clock.now
  pub takes : taken (record { count = length could.goes_on.reads.records; seen = could.goes_on.seen; plan = None }) next
      ≡ Some edits
  pub in_turn : ComesInTurn start old.link.taken new.link.taken could.goes_on.seen new.clock.now next
  pub passes : IsSome (option_or (passed could.goes_on.seen edits)
      (if nat_lt most_image (length_with could.goes_on.reads.records next) then Some limit.Journal else None))

-- The run has begun and could take a record more, and with the act on the command that was taken last, which is of a new run and
-- issue, the file of its agent would be too long, now.
pub record NextActPasses (start : Start) (old new : SiteView) : Type 0 where
  pub could : CouldAppend start old new
  pub begun : could.goes_on.reads.records ≢ []
  pub parcel : Parcel
  pub is_command : IsCommand parcel
  pub taken_last : IsTakenLast parcel old.link.taken new.link.taken
  pub acts : List Act
  pub are : IsActs (new.disk.reads parcel.agent) acts
  pub is_new : IsNew acts parcel.run parcel.issue
  pub past : most_image < act_file.length_with acts (act_for acts parcel new.clock.now)

-- What would pass comes of the parcel that was taken last: its Reply, or the act on it.
abbrev pub PassesInHand : Start → SiteView → SiteView → Type 0
PassesInHand start old new = ((n : NextPasses start old new) × (one_reply n.next ≡ 1)) ⊎ NextActPasses start old new

-- one of these
abbrev pub WouldPassSo : Start → SiteView → SiteView → Type 0
WouldPassSo start old new =
    IsLateSo start new ⊎ (DuePasses start old new ⊎ (NextPasses start old new ⊎ NextActPasses start old new))

-- What may stop a run that waits for an operator alone: it has too many tasks, the clock is past the limit, or the act on the
-- command that was taken last would pass one.
abbrev pub PassesIdle : Start → SiteView → SiteView → Type 0
PassesIdle start old new = ReadsTooLarge start new ⊎ (IsLateSo start new ⊎ NextActPasses start old new)

-- ---- the status, and what the files read as

-- What a status tells: that the run has ended well (0) or failed (6); that it goes on, with as many records more as may be (7),
-- behind too many parcels, the last of which is no reply that an issue waits for (15; of the parcels only where those taken are
-- told), or waiting for an operator (16); that the clock stands before a moment that was asked for (14); that the file is another
-- run's, or the number is used and no filter's file is damaged (12); that it is damaged, or the file of an agent is (13); that
-- its run has too many tasks, the clock is past the limit, or what comes next would pass one (11). And where the session closed,
-- its records are within the budget, and but for 14 the clock came to the moment that was asked for last; there, and at 11, 12
-- and 13, a crash leaves them all.
pub record StatusTells (start : Start) (old new : SiteView) (answer : ℕ) : Type 0 where
  pub well : answer ≡ 0 → ReadsSo start (Some true) new
  pub failed : answer ≡ 6 → ReadsSo start (Some false) new
  pub pauses : answer ≡ 7 → PausesSo start old new
  pub floods : answer ≡ 15 → FloodsSo start old new × LeavesNoReply start old new
  pub asks : answer ≡ 16 → AsksSo start old new
  pub waits : answer ≡ 14 → WaitsSo start old new
  pub kept : IsOneOf answer closed_statuses → KeepsWithin start old new
  pub reached : IsOneOf answer reached_statuses → new.clock.asked ≤ new.clock.now
  pub another : answer ≡ 12 → ReadsAsAnother start new ⊎ (FindsFirstUsed start new × (HasDamagedFilter start new → ⊥))
  pub damaged : answer ≡ 13 → ReadsAsDamaged start new ⊎ HasDamagedFilter start new
  pub past : answer ≡ 11 → ReadsTooLarge start new ⊎ WouldPassSo start old new
  pub left : IsOneOf answer (11 ∷ 12 ∷ 13 ∷ []) → LeavesRecords new

-- The statuses that come whatever the files hold: a file could not be read (3), a text has no reading (5), the disk failed (8), a
-- line was not said (9), memory was wanted (10).
abbrev pub or_any : List ℕ → List ℕ
or_any statuses = 3 ∷ 5 ∷ 8 ∷ 9 ∷ 10 ∷ statuses

-- What the files tell of the status, but for these. Where the run has ended, the status says so, and how; or a limit is passed
-- (11), a filter's file is damaged (13), or the clock answers too early (14). Where it goes on, the status is 7, 12, 15 or 16, or
-- one of these three; with as many records more as may be, it is 7. Where the file is another run's, it is 12; where it is
-- damaged, 13; where its run is too large, 11. Where a filter's file is damaged, it is 13, unless the engine's file has too large
-- a run (11) or is another run's (12). Where the number is used, it is 12, unless a filter's file is damaged.
pub record FileTells (start : Start) (old new : SiteView) (answer : ℕ) : Type 0 where
  pub well : ReadsSo start (Some true) new → IsOneOf answer (0 ∷ or_any (11 ∷ 13 ∷ 14 ∷ []))
  pub failed : ReadsSo start (Some false) new → IsOneOf answer (6 ∷ or_any (11 ∷ 13 ∷ 14 ∷ []))
  pub goes_on : ReadsSo start None new → IsOneOf answer (7 ∷ 12 ∷ 15 ∷ 16 ∷ or_any (11 ∷ 13 ∷ 14 ∷ []))
  pub pauses : PausesSo start old new → IsOneOf answer (7 ∷ or_any [])
  pub another : ReadsAsAnother start new → IsOneOf answer (12 ∷ or_any [])
  pub damaged : ReadsAsDamaged start new → IsOneOf answer (13 ∷ or_any [])
  pub too_large : ReadsTooLarge start new → IsOneOf answer (11 ∷ or_any [])
  pub filter_damaged : HasDamagedFilter start new
      → IsOneOf answer (13 ∷ or_any []) ⊎ (((answer ≡ 11) × ReadsTooLarge start new) ⊎ ((answer ≡ 12) × ReadsAsAnother start new))
  pub used : FindsUsed start new → IsOneOf answer (12 ∷ or_any (13 ∷ []))

-- What a run that may go on, and the clock, tell of the status, but for those that come whatever the files hold. Where the run
-- may go on, it is 15 or 16, or 11, 13 or 14. Where it waits for an operator alone, and the clock is not before the last record,
-- it is 16, but for 15 and 13, unless it has too many tasks, the clock is past the limit, or the act on the command that was
-- taken last would pass one (11); where a move is enabled now, it is 11 or 15, but for 13. Where the clock is past the limit, it
-- is 11, but for 12 and 13. Where 1,000,000 parcels changed neither journal, and those that were taken are told, it is 15, unless
-- the Reply of the last one or the act on it would pass a limit (11).
pub record TurnTells (start : Start) (old new : SiteView) (answer : ℕ) : Type 0 where
  pub may : CanGoOn start old new → IsOneOf answer (15 ∷ 16 ∷ or_any (11 ∷ 13 ∷ 14 ∷ []))
  pub asks : (a : AsksSo start old new) → a.may.goes_on.seen.moment ≤ new.clock.now
      → IsOneOf answer (16 ∷ 15 ∷ or_any (13 ∷ [])) ⊎ ((answer ≡ 11) × PassesIdle start old new)
  pub moves : (m : CanGoOn start old new) → enabled_move m.goes_on.seen new.clock.now ≢ None
      → IsOneOf answer (11 ∷ 15 ∷ or_any (13 ∷ []))
  pub late : IsAcceptedStart start → last_moment < new.clock.now → IsOneOf answer (11 ∷ or_any (12 ∷ 13 ∷ []))
  pub floods : FloodsSo start old new → IsSome old.link.taken
      → IsOneOf answer (15 ∷ or_any []) ⊎ ((answer ≡ 11) × PassesInHand start old new)

pub record ReturnsSo (start : Start) (old new : SiteView) (answer : ℕ) : Type 0 where
  pub of_status : StatusTells start old new answer
  pub of_file : FileTells start old new answer
  pub of_turn : TurnTells start old new answer

-- Of `run`: what its files keep; where the session closed, that each command that was taken has its act; and with the texts of
-- the files that are named, what they and the status tell of each other.
abbrev pub TellsOnReturn : Option Asked → Option Files → SiteView → SiteView → ℕ → Type 0
TellsOnReturn None told old new answer = ⊤
TellsOnReturn (Some (canonises book)) told old new answer = ⊤
TellsOnReturn (Some (checks books)) told old new answer = ⊤
TellsOnReturn (Some (runs wanted)) told old new answer =
    IsTrue new.disk.told → KeepsRecords wanted.most old new × KeepsActs old new
    × (IsOneOf answer closed_statuses → ActsOnAll old new) × IfFilesTold (files_of (Some (runs wanted))) told (λ files.
    (texts : List NamedText) → HasTexts files wanted texts → ReturnsSo (start_of wanted texts) old new answer)
TellsOnReturn (Some shows) told old new answer = ⊤
TellsOnReturn (Some (lists_rules agent)) told old new answer = ⊤
TellsOnReturn (Some (decides agent packets)) told old new answer = ⊤
TellsOnReturn (Some (shadows agent)) told old new answer = ⊤
TellsOnReturn (Some (rehearses positions)) told old new answer = ⊤
TellsOnReturn (Some (audits engine filters)) told old new answer = ⊤
