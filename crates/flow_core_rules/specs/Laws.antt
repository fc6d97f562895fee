-- Promise: What holds of the definitions.
use Rattle.std.specs.Prelude.{◌≡◌, ◌↔◌, ℕ, ◌<◌, ◌≤◌, ◌==◌, ◌^◌, nat_le, nat_eq, ◌&&◌, Bool, true, false, List, [], ◌∷◌, ◌++◌, length, codes, Contains, Option, Some, None, IsSome, slice_get, All, ⊤, if◌then◌else◌}
use Rattle.std.specs.List.{AllByRecursion, list_all, list_any}
use Rattle.std.specs.Str.{bytes_eq, IsUtf8}
use Rattle.run_records.specs.declared.record.Record.{Record}
use Rattle.run_records.specs.declared.record.Record.TheVariants as entry
use Rattle.run_records.specs.Ranges.{IsShort, InRange, last_moment}
use Rattle.serde_json.specs.Data.{Data}
use Rattle.cacao_vars.specs.declared.kinds.Kind.{Kind}
use Rattle.cacao_cond.specs.Trees.{AnyTree}
use Rattle.cacao_cond.specs.Grammar.{Spells}
use Rattle.flow_core_rules.specs.declared.issues.Issue.{Issue}
use Rattle.flow_core_rules.specs.declared.issues.IssuePhase.{IssuePhase}
use Rattle.flow_core_rules.specs.declared.issues.IssuePhase.TheVariants as issue_phase
use Rattle.flow_core_rules.specs.declared.moves.Move.{Move}
use Rattle.flow_core_rules.specs.Moves.{enabled_move, record_of}
use Rattle.flow_core_rules.specs.Givens.{Given}
use Rattle.flow_core_rules.specs.State.{State, Shown, shown, value, value_shown}
use Rattle.flow_core_rules.specs.Edits.{Edit, edited, shown_edited}
use Rattle.flow_core_rules.specs.Edits.Edit.{upgrades}
use Rattle.flow_core_rules.specs.Conditions.{condition_of}
use Rattle.flow_core_rules.specs.Changes.{change, moment_of, is_waiting, outcome, is_in_time}
use Rattle.flow_core_rules.specs.Runs.{Next, Leads, IsEnabled, IsEnded, blank, begun, begin_of, first_edits, shown_after}
use Rattle.flow_core_rules.specs.Accepted.{Accepted, IsRunOf}
use Rattle.flow_core_rules.specs.Earlier.{EarlierLeads, WasAccepted}
use Rattle.flow_core_rules.specs.Runnable.{IsRunnable}
use Rattle.flow_core_rules.specs.Sane.{IsSane, IsNotStuck, CanEnd, IsAllOver}
use Rattle.flow_core_rules.specs.Lines.{record_line}

-- ---- what is shown is all that the next records rest on

-- writes went to scopes that are there
abbrev pub HasPlacedWrites : State → Type 0
HasPlacedWrites s = AllByRecursion (λ write. write.scope < length s.scopes) s.writes

-- the value of a name is shown
abbrev pub ValuesAreShown : Type 0
ValuesAreShown = (s : State) (scope : ℕ) (name : List ℕ) → value s scope name ≡ value_shown (shown s).lists scope name

-- an edit changes what is shown by itself
abbrev pub EditsAreShown : Type 0
EditsAreShown = (s : State) (e : Edit) → HasPlacedWrites s → (shown (edited e s)).lists ≡ shown_edited e (shown s).lists

-- So does a record: what is shown after it follows from what was shown before it and from nothing else.
pub record IsShownAlone (s : State) (r : Record) (new : State) : Type 0 where
  pub edits : List Edit
  pub edits_are : change (shown s) r ≡ Some edits
  pub shown_is : shown new ≡ shown_after (moment_of r) edits (shown s)
  pub placed : HasPlacedWrites new

abbrev pub RecordsAreShown : Type 0
RecordsAreShown = (s new : State) (r : Record) → HasPlacedWrites s → Next s r new → IsShownAlone s r new

-- and so does the first record
pub record IsShownAtFirst (given : Given) (run now : ℕ) (new : State) : Type 0 where
  pub edits : List Edit
  pub edits_are : first_edits given now ≡ Some edits
  pub shown_is : shown new ≡ shown_after now edits (shown (blank given run))
  pub placed : HasPlacedWrites new

abbrev pub FirstRecordIsShown : Type 0
FirstRecordIsShown = (given : Given) (run now : ℕ) (new : State) → begun given run now ≡ Some new
    → IsShownAtFirst given run now new

-- ---- conditions

-- a text has a condition exactly where it spells that one by the grammar
abbrev pub ConditionsAreSpelled : Type 0
ConditionsAreSpelled = (text : List ℕ) (tree : AnyTree) → (condition_of text ≡ Some tree) ↔ Spells tree text

-- ---- the relation is a function of the record

-- a record leads to one state at most
abbrev pub NextIsOne : Type 0
NextIsOne = (s a b : State) (r : Record) → Next s r a → Next s r b → a ≡ b

-- and to one exactly where it is enabled
abbrev pub EnabledHasNext : Type 0
EnabledHasNext = (s : State) (r : Record) → IsEnabled s r ↔ ((new : State) × Next s r new)

-- records lead to one state at most
abbrev pub RunLeadsToOne : Type 0
RunLeadsToOne = (given : Given) (run : ℕ) (records : List Record) (a b : State) → Leads given run records a
    → Leads given run records b → a ≡ b

-- nothing is asked of the trees of playbooks, nor of a text of a kind
abbrev pub AnyTrees : List Data → Type 0
AnyTrees trees = ⊤

abbrev pub AnyText : Kind → List ℕ → Type 0
AnyText kind text = ⊤

-- Records are a run in one way at most, whatever rules playbooks and texts of kinds keep: they tell its number and what it was
-- given.
pub record IsSameRun (AreAccepted : List Data → Type 0) (Fits : Kind → List ℕ → Type 0) (records : List Record)
    (x y : IsRunOf AreAccepted Fits records) : Type 0 where
  pub given_is : x.given ≡ y.given
  pub run_is : x.run ≡ y.run
  pub state_is : x.state ≡ y.state

abbrev pub RunsAreOne : Type 0
RunsAreOne = (records : List Record) (x y : IsRunOf AnyTrees AnyText records) → IsSameRun AnyTrees AnyText records x y

-- A run of one record is its Begin, and its state is that after the Begin.
pub record IsBegun (given : Given) (run : ℕ) (r : Record) (s : State) : Type 0 where
  pub now : ℕ
  pub record_is : r ≡ begin_of given run now
  pub state_is : begun given run now ≡ Some s

abbrev pub OneRecordIsBegin : Type 0
OneRecordIsBegin = (given : Given) (run : ℕ) (r : Record) (s : State) → Leads given run (r ∷ []) s → IsBegun given run r s

-- a run that is one more record long is a run, a state of it, and a next record
pub record IsOneMore (given : Given) (run : ℕ) (before : List Record) (r : Record) (new : State) : Type 0 where
  pub state : State
  pub leads : Leads given run before state
  pub next : Next state r new

abbrev pub RunsGoOn : Type 0
RunsGoOn = (given : Given) (run : ℕ) (first : Record) (others : List Record) (r : Record) (new : State)
    → Leads given run (first ∷ others ++ r ∷ []) new ↔ IsOneMore given run (first ∷ others) r new

-- ---- the end of a run

-- a run that is ended has no enabled record
abbrev pub EndedIsOver : Type 0
EndedIsOver = (given : Given) (run : ℕ) (records : List Record) (s : State) (r : Record) → Leads given run records s
    → IsEnded s → ¬ IsEnabled s r

-- a sane state is not stuck, and each state of a run of what is runnable is sane
abbrev pub SaneIsNotStuck : Type 0
SaneIsNotStuck = (s : Shown) → IsSane s → IsNotStuck s

abbrev pub RunsAreSane : Type 0
RunsAreSane = (given : Given) (run : ℕ) (records : List Record) (s : State) → IsRunnable given → Leads given run records s
    → IsSane (shown s)

-- a waiting issue of a sane state can end
abbrev pub WaitingCanEnd : Type 0
WaitingCanEnd = (s : Shown) (n : ℕ) (issue : Issue) → IsSane s → slice_get s.lists.issues n ≡ Some issue
    → is_waiting issue.phase ≡ true → CanEnd s n issue

-- once the first task of a sane state has ended, all is over
abbrev pub EndedIsAllOver : Type 0
EndedIsAllOver = (s : Shown) → IsSane s → IsSome (outcome s.lists) → IsAllOver s

-- each run by the rules before there were operators is a run
abbrev pub EarlierRunsAreRuns : Type 0
EarlierRunsAreRuns = (given : Given) (run : ℕ) (records : List Record) (s : State) → WasAccepted given
    → EarlierLeads given run records s → Leads given run records s

-- ---- issues and their records

-- the record sent or asked this issue
abbrev pub issued_by : Record → Option ℕ
issued_by (entry.Send task issue agent moment bytes) = Some issue
issued_by (entry.Ask task issue moment bytes) = Some issue
issued_by other = None

-- the record ended this issue
abbrev pub ended_by : Record → Option ℕ
ended_by (entry.Reply issue moment status rule text) = Some issue
ended_by (entry.Told issue moment status text) = Some issue
ended_by (entry.Expire issue moment) = Some issue
ended_by other = None

-- the record that sent a command, or asked a question
abbrev pub record_of_issue : ℕ → Issue → Record
record_of_issue n issue =
    if issue.agent == 0 then entry.Ask issue.task n issue.moment issue.bytes
    else entry.Send issue.task n issue.agent issue.moment issue.bytes

-- a Send and an Ask have the number of issues so far, which is new: no record before has it
abbrev pub IssuesAreNew : Type 0
IssuesAreNew =
    (given : Given) (run : ℕ) (before : List Record) (s new : State) (r : Record) (n : ℕ) → Leads given run before s
    → Next s r new → issued_by r ≡ Some n
    → (n ≡ length s.issues) × All (λ earlier. ¬ (issued_by earlier ≡ Some n)) before

-- how the issue stands that a record ended
abbrev pub end_by : Record → Option IssuePhase
end_by (entry.Reply issue moment status rule text) = Some (issue_phase.Answered status)
end_by (entry.Told issue moment status text) = Some (issue_phase.Told status)
end_by (entry.Expire issue moment) = Some issue_phase.Expired
end_by other = None

-- a record ended the issue so
pub record HasEnd (records : List Record) (n : ℕ) (end : IssuePhase) : Type 0 where
  pub last : Record
  pub among : Contains records last
  pub issue_is : ended_by last ≡ Some n
  pub end_is : end_by last ≡ Some end

-- Each issue of a run has its record; one that waits has none that ends it, and any other has one that ended it as it stands.
pub record HasRecords (records : List Record) (n : ℕ) (issue : Issue) : Type 0 where
  pub issued : Contains records (record_of_issue n issue)
  pub waits : is_waiting issue.phase ≡ true → All (λ r. ¬ (ended_by r ≡ Some n)) records
  pub ended : is_waiting issue.phase ≡ false → HasEnd records n issue.phase

abbrev pub IssuesHaveRecords : Type 0
IssuesHaveRecords =
    (given : Given) (run : ℕ) (records : List Record) (s : State) (n : ℕ) (issue : Issue) → IsRunnable given
    → Leads given run records s
    → slice_get s.issues n ≡ Some issue → HasRecords records n issue

-- What a record does to issues: the one that it ends, if it ends one, stands so, all others that were there stay, and one that it
-- sent or asked waits.
pub record KeepsIssues (s new : State) (r : Record) : Type 0 where
  pub others : (n : ℕ) (issue : Issue) → slice_get s.issues n ≡ Some issue → ¬ (ended_by r ≡ Some n)
      → slice_get new.issues n ≡ Some issue
  pub ended : (n : ℕ) (issue : Issue) (end : IssuePhase) → slice_get s.issues n ≡ Some issue → ended_by r ≡ Some n
      → end_by r ≡ Some end → slice_get new.issues n ≡ Some (record issue { phase = end })
  pub issued : (n : ℕ) → issued_by r ≡ Some n
      → (issue : Issue) × (slice_get new.issues n ≡ Some issue) × (is_waiting issue.phase ≡ true)

abbrev pub RecordsKeepIssues : Type 0
RecordsKeepIssues = (s new : State) (r : Record) → Next s r new → KeepsIssues s new r

-- ---- moves and records

-- the record of a move is of that moment, and may come next
pub record HasRecord (s : Shown) (now : ℕ) (m : Move) : Type 0 where
  pub made : Record
  pub made_is : record_of s now m ≡ Some made
  pub moment_is : moment_of made ≡ now
  pub is_next : IsSome (change s made)

-- a move that is enabled has its record
abbrev pub MovesAreEnabled : Type 0
MovesAreEnabled = (s : Shown) (now : ℕ) (m : Move) → enabled_move s now ≡ Some m → HasRecord s now m

-- no task walks, sends or asks at a moment, nor asks once the run is upgraded then
pub record HasNoRecord (s : Shown) (now : ℕ) : Type 0 where
  pub no_walk : (t : ℕ) → change s (entry.Walk t now) ≡ None
  pub no_send : (t n agent : ℕ) (bytes : List ℕ) → change s (entry.Send t n agent now bytes) ≡ None
  pub no_ask : (t n : ℕ) (bytes : List ℕ) → change s (entry.Ask t n now bytes) ≡ None
  pub no_later_ask : (t n : ℕ) (bytes : List ℕ) → change (shown_after now (upgrades ∷ []) s) (entry.Ask t n now bytes) ≡ None

-- while a run goes on, and has no move at a moment at which a record may come next, there is none of those
abbrev pub NoMoveIsNoRecord : Type 0
NoMoveIsNoRecord = (s : Shown) (now : ℕ) → is_in_time s now ≡ true → outcome s.lists ≡ None → enabled_move s now ≡ None
    → HasNoRecord s now

-- What no rule of runs limits is within the limits: a command is short, a question is short and in UTF-8, the number of a rule
-- fits its width.
abbrev pub HasFitFields : Record → Type 0
HasFitFields (entry.Send task issue agent moment bytes) = IsShort bytes
HasFitFields (entry.Ask task issue moment bytes) = IsShort bytes × IsUtf8 bytes
HasFitFields (entry.Reply issue moment status rule text) = rule < 2 ^ 32
HasFitFields other = ⊤

-- the record of a move that is enabled is in range, where tasks and issues are within their limits
abbrev pub MovesAreInRange : Type 0
MovesAreInRange =
    (s : Shown) (now : ℕ) (m : Move) (r : Record) → length s.lists.tasks ≤ 1_000_000 → length s.lists.issues < 2 ^ 32
    → All (λ entry. (1 ≤ entry.1) × (entry.1 ≤ 16)) s.given.agents
    → enabled_move s now ≡ Some m → record_of s now m ≡ Some r → HasFitFields r → InRange r

-- and so is each record that may come next
abbrev pub EnabledAreInRange : Type 0
EnabledAreInRange =
    (s : Shown) (r : Record) → length s.lists.tasks ≤ 1_000_000 → length s.lists.issues < 2 ^ 32
    → All (λ entry. (1 ≤ entry.1) × (entry.1 ≤ 16)) s.given.agents
    → IsSome (change s r) → HasFitFields r → InRange r

-- and the Begin of what is accepted, where the run's number and the texts are within the limits
abbrev pub BeginsAreInRange : Type 0
BeginsAreInRange =
    (given : Given) (run now : ℕ) (first : State) → Accepted AnyTrees AnyText given.texts given.bind given
    → begun given run now ≡ Some first → now ≤ last_moment → run < 2 ^ 64 → AllByRecursion IsShort given.texts
    → IsShort given.bind
    → InRange (begin_of given run now)

-- ---- lines of records

abbrev pub is_digit : ℕ → Bool
is_digit c = nat_le 48 c && nat_le c 57

-- digits, at least one
abbrev pub AreDigits : List ℕ → Type 0
AreDigits text = (0 < length text) × (list_all is_digit text ≡ true)

abbrev pub record_words : List (List ℕ)
record_words =
    codes "begin" ∷ codes "walk" ∷ codes "send" ∷ codes "reply" ∷ codes "expire" ∷ codes "upgrade" ∷ codes "ask"
    ∷ codes "told" ∷ []

-- A line that looks like that of a record: digits, a space, digits, a space, a record's word, a space.
pub record IsRecordLine (text : List ℕ) : Type 0 where
  pub number : List ℕ
  pub moment : List ℕ
  pub word : List ℕ
  pub rest : List ℕ
  pub number_is : AreDigits number
  pub moment_is : AreDigits moment
  pub word_is : list_any (bytes_eq word) record_words ≡ true
  pub joined : text ≡ number ++ 32 ∷ (moment ++ 32 ∷ (word ++ 32 ∷ rest))

-- the line of each record does
abbrev pub RecordsHaveLines : Type 0
RecordsHaveLines = (before : Shown) (n : ℕ) (r : Record) → n < 2 ^ 64 → moment_of r < 2 ^ 64
    → IsRecordLine (record_line before n r)

-- it fixes the number and the moment of its record
abbrev pub LinesFixRecords : Type 0
LinesFixRecords = (a b : Shown) (n m : ℕ) (r q : Record) → n < 2 ^ 64 → m < 2 ^ 64 → moment_of r < 2 ^ 64 → moment_of q < 2 ^ 64
    → record_line a n r ≡ record_line b m q → (n ≡ m) × (moment_of r ≡ moment_of q)

-- the first characters of the words of records
abbrev pub word_starts : List ℕ
word_starts = codes "bwsreuat"

-- A line does not that begins with no digit, that has no space behind its digits, no digit behind that space, no space behind
-- the second digits, or behind that space a character that begins no record's word.
pub record OthersAreNoRecords : Type 0 where
  pub no_number : (c : ℕ) (rest : List ℕ) → is_digit c ≡ false → ¬ IsRecordLine (c ∷ rest)
  pub no_space : (number : List ℕ) (c : ℕ) (rest : List ℕ) → list_all is_digit number ≡ true → is_digit c ≡ false
      → (c == 32) ≡ false
      → ¬ IsRecordLine (number ++ c ∷ rest)
  pub no_moment : (number : List ℕ) (c : ℕ) (rest : List ℕ) → list_all is_digit number ≡ true → is_digit c ≡ false
      → ¬ IsRecordLine (number ++ 32 ∷ c ∷ rest)
  pub no_second_space : (number moment : List ℕ) (c : ℕ) (rest : List ℕ) → list_all is_digit number ≡ true
      → list_all is_digit moment ≡ true → is_digit c ≡ false → (c == 32) ≡ false
      → ¬ IsRecordLine (number ++ 32 ∷ (moment ++ c ∷ rest))
  pub no_word : (number moment : List ℕ) (c : ℕ) (rest : List ℕ) → list_all is_digit number ≡ true
      → list_all is_digit moment ≡ true → list_any (nat_eq c) word_starts ≡ false
      → ¬ IsRecordLine (number ++ 32 ∷ (moment ++ 32 ∷ c ∷ rest))
