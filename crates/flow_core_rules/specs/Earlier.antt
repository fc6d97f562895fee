-- Scaffold: The rules of a run as they were before there were operators: records of five kinds, and a place for a filter for each command
-- and each addressee.
use Rattle.std.specs.Prelude.{◌≡◌, ℕ, suc, ◌≤◌, ◌==◌, ◌&&◌, not, true, false, Bool, IsTrue, All, List, [], ◌∷◌, ◌++◌, length, map, Option, Some, None, is_some, slice_get, option_and_then, option_map, if◌then◌else◌}
use Rattle.std.specs.List.{flat_map, list_all}
use Rattle.std.specs.Str.{bytes_eq}
use Rattle.run_records.specs.Fields.{◌>>=◌}
use Rattle.run_records.specs.declared.record.Record.{Record}
use Rattle.run_records.specs.declared.record.Record.TheVariants as entry
use Rattle.run_records.specs.Ranges.{last_moment}
use Rattle.cacao_book.specs.declared.books.Book.{Book}
use Rattle.cacao_book.specs.declared.steps.Step.{Step}
use Rattle.cacao_book.specs.declared.step_kinds.StepKind.{StepKind}
use Rattle.cacao_book.specs.declared.step_kinds.StepKind.TheVariants as does
use Rattle.flow_core_rules.specs.declared.tasks.Task.{Task}
use Rattle.flow_core_rules.specs.declared.phases.Phase.{Phase}
use Rattle.flow_core_rules.specs.declared.phases.Phase.TheVariants as phase
use Rattle.flow_core_rules.specs.declared.issues.IssuePhase.TheVariants as issue_phase
use Rattle.flow_core_rules.specs.Givens.{Given}
use Rattle.flow_core_rules.specs.State.{State, Shown, shown}
use Rattle.flow_core_rules.specs.Edits.{Edit, moves, closes}
use Rattle.flow_core_rules.specs.Places.{Place, to_filter, addressees, is_manual}
use Rattle.flow_core_rules.specs.Tasks.{Here, here_at, in_phase, finish}
use Rattle.flow_core_rules.specs.Changes.{walk, command_at, issuing, Waiting, waiting_at, is_answer, written, paired, results, out_args_of, expired, moment_of, is_in_time}
use Rattle.flow_core_rules.specs.Runs.{after, begin_of, begun}

abbrev pub earlier_places : StepKind → List Place
earlier_places (does.Action commands agent targets in_args out_args) =
    flat_map (λ command. map (λ to. to_filter command.content to) (addressees agent targets)) commands
earlier_places other = []

abbrev pub earlier_place_at : Here → Phase → Option Place
earlier_place_at h (phase.Sending n) = slice_get (earlier_places h.step.kind) n
earlier_place_at h other = None

abbrev pub earlier_send : Shown → ℕ → ℕ → ℕ → ℕ → List ℕ → Option (List Edit)
earlier_send s now t number agent bytes = do
  h ← here_at s now t
  place ← earlier_place_at h h.task.phase
  issue ← command_at h place
  if (number == length s.lists.issues) && (agent == issue.agent) && bytes_eq bytes issue.bytes then Some (issuing h issue).1
      else None

abbrev pub earlier_after_answer : Waiting → ℕ → Task
earlier_after_answer w status =
    if not (status == 200) then finish w.here false
    else if is_some (slice_get (earlier_places w.here.step.kind) (suc w.place))
    then in_phase w.here.task (phase.Sending (suc w.place))
    else finish w.here true

abbrev pub earlier_answered : ℕ → ℕ → ℕ → List ℕ → Waiting → List Edit
earlier_answered n status rule text w =
    closes n (issue_phase.Answered status)
    ∷ (flat_map (written w.here.seen.lists w.scope) (paired (out_args_of w.here.step.kind) (results status rule text))
    ++ moves w.here.number (earlier_after_answer w status) ∷ [])

abbrev pub earlier_reply : Shown → ℕ → ℕ → ℕ → ℕ → List ℕ → Option (List Edit)
earlier_reply s now n status rule text =
    if is_answer status text then option_map (earlier_answered n status rule text) (waiting_at s now n) else None

abbrev pub earlier_expire : Shown → ℕ → ℕ → Option (List Edit)
earlier_expire s now n = option_and_then (expired n) (waiting_at s now n)

abbrev pub earlier_edits_of : Shown → Record → Option (List Edit)
earlier_edits_of s (entry.Walk task moment) = walk s moment task
earlier_edits_of s (entry.Send task issue agent moment bytes) = earlier_send s moment task issue agent bytes
earlier_edits_of s (entry.Reply issue moment status rule text) = earlier_reply s moment issue status rule text
earlier_edits_of s (entry.Expire issue moment) = earlier_expire s moment issue
earlier_edits_of s other = None

abbrev pub earlier_change : Shown → Record → Option (List Edit)
earlier_change s r = if is_in_time s (moment_of r) then earlier_edits_of s r else None

pub record EarlierNext (s : State) (r : Record) (new : State) : Type 0 where
  pub edits : List Edit
  pub change_is : earlier_change (shown s) r ≡ Some edits
  pub new_is : new ≡ after (moment_of r) edits s

abbrev pub EarlierGoesOn : State → List Record → State → Type 0
EarlierGoesOn s [] new = s ≡ new
EarlierGoesOn s (r ∷ records) new = (mid : State) × EarlierNext s r mid × EarlierGoesOn mid records new

pub record EarlierLeads (given : Given) (run : ℕ) (records : List Record) (new : State) : Type 0 where
  pub now : ℕ
  pub others : List Record
  pub first : State
  pub in_time : now ≤ last_moment
  pub records_are : records ≡ begin_of given run now ∷ others
  pub begins : begun given run now ≡ Some first
  pub goes_on : EarlierGoesOn first others new

-- what was accepted then: no command for operators; bound filters have numbers from 1 on
abbrev pub has_no_manual : StepKind → Bool
has_no_manual (does.Action commands agent targets in_args out_args) = list_all (λ command. not (is_manual command)) commands
has_no_manual other = true

pub record WasAccepted (given : Given) : Type 0 where
  pub no_manual : (number place : ℕ) (book : Book) (step : Step) → slice_get given.books number ≡ Some book
      → slice_get book.steps place ≡ Some step
      → IsTrue (has_no_manual step.kind)
  pub filters : All (λ entry. 1 ≤ entry.1) given.agents
