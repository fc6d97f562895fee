-- Promise: What each record changes, and where it may come next: one rule for each kind of record.
use Rattle.std.specs.Prelude.{ℕ, suc, ◌+◌, ◌==◌, ◌&&◌, nat_le, nat_eq, Bool, true, false, not, List, [], ◌∷◌, ◌++◌, length, map, drop, filter, Option, Some, None, is_some, is_none, slice_get, option_and_then, option_map, if◌then◌else◌}
use Rattle.std.specs.Fmt.{decimal}
use Rattle.std.specs.Option.{option_map_or}
use Rattle.std.specs.List.{list_all, list_any, flat_map}
use Rattle.std.specs.Str.{bytes_eq, is_utf8}
use Rattle.run_records.specs.Fields.{◌>>=◌}
use Rattle.run_records.specs.declared.record.Record.{Record}
use Rattle.run_records.specs.declared.record.Record.TheVariants as entry
use Rattle.run_records.specs.Ranges.{most_status_text, last_moment}
use Rattle.cacao_vars.specs.Scopes.{home}
use Rattle.cacao_book.specs.declared.books.Book.{Book}
use Rattle.cacao_book.specs.declared.step_kinds.StepKind.{StepKind}
use Rattle.cacao_book.specs.declared.step_kinds.StepKind.TheVariants as does
use Rattle.flow_core_rules.specs.declared.tasks.Task.{Task}
use Rattle.flow_core_rules.specs.declared.issues.Issue.{Issue}
use Rattle.flow_core_rules.specs.declared.phases.Phase.{Phase}
use Rattle.flow_core_rules.specs.declared.phases.Phase.TheVariants as phase
use Rattle.flow_core_rules.specs.declared.issues.IssuePhase.{IssuePhase}
use Rattle.flow_core_rules.specs.declared.issues.IssuePhase.TheVariants as issue_phase
use Rattle.flow_core_rules.specs.Givens.{book_with}
use Rattle.flow_core_rules.specs.State.{Lists, Shown, value_shown}
use Rattle.flow_core_rules.specs.Conditions.{heads, is_true}
use Rattle.flow_core_rules.specs.Filled.{fill, replaced}
use Rattle.flow_core_rules.specs.Places.{Place, to_filter, to_operator, places, filter_of}
use Rattle.flow_core_rules.specs.Tasks.{Here, here_at, in_phase, finish, child}
use Rattle.flow_core_rules.specs.Edits.{Edit, opens, writes, makes, moves, issues, closes, upgrades, shown_edited}

-- ---- words of several rules

-- the task's step is done
abbrev pub done : Here → Bool → List Edit
done h well = moves h.number (finish h well) ∷ []

-- names with the texts that they are to get, as far as both go
abbrev pub paired : List (List ℕ) → List (Option (List ℕ)) → List (List ℕ × Option (List ℕ))
paired (name ∷ names) (text ∷ texts) = (name, text) ∷ paired names texts
paired names texts = []

-- names with the values that they have in a scope
abbrev pub valued : Lists → ℕ → List (List ℕ) → List (List ℕ × Option (List ℕ))
valued s scope names = map (λ name. (name, value_shown s scope name)) names

-- a text for a name is written to its home, seen from a scope; where there is no text, or no home, nothing is
abbrev pub written : Lists → ℕ → List ℕ × Option (List ℕ) → List Edit
written s scope (name, None) = []
written s scope (name, Some text) = option_map_or (λ at. writes at name text ∷ []) (home s.scopes scope name) []

-- a text for a name is bound in this very scope; where there is no text, nothing is
abbrev pub binding : ℕ → List ℕ × Option (List ℕ) → List Edit
binding scope (name, None) = []
binding scope (name, Some text) = writes scope name text ∷ []

-- ---- Walk of a task that stands before its step, from the step's delay on

-- An action, a playbook-action and a control step open a scope with the step's variables inside the task's scope, and go on in
-- it.
abbrev pub opening : Here → Edit
opening h = opens (Some h.task.scope) h.step.variables

-- the same place once that scope is open, which has the next number
abbrev pub inside : Here → Here
inside h = record h {
  seen = record h.seen { lists = shown_edited (opening h) h.seen.lists };
  task = record h.task { step_scope = Some (length h.seen.lists.scopes) };
}

-- the task waits for the tasks that are made next
abbrev pub joining : Here → Task
joining h = in_phase h.task (phase.Joining (length h.seen.lists.tasks))

-- A control step makes a task for each branch that it takes, in its scope, and waits for them; where it takes none, it succeeds.
abbrev pub branched : Here → ℕ → List (List ℕ) → List Edit
branched h scope [] = done h true
branched h scope (head ∷ others) =
    moves h.number (joining h) ∷ map (λ key. makes (child h h.task.book scope key)) (head ∷ others)

-- A playbook-action opens a scope without parent with the called playbook's variables, binds there what `in_args` have in the
-- step's scope, makes a task before that playbook's start, and waits for it.
abbrev pub called : Here → ℕ → List (List ℕ) → ℕ × Book → List Edit
called h scope in_args theirs =
    opens None (theirs.1).variables
    ∷ (flat_map (binding (suc scope)) (valued h.seen.lists scope in_args)
    ++ moves h.number (joining h) ∷ makes (child h theirs.0 (suc scope) (theirs.1).start) ∷ [])

-- the scope of a control step, and its branches in it
abbrev pub controlled : Here → StepKind → List Edit
controlled h kind =
    let scope : ℕ = length h.seen.lists.scopes in
    opening h ∷ branched (inside h) scope (heads (inside h).seen.lists scope kind)

-- What a step does where it is entered.
abbrev pub entered : Here → StepKind → Option (List Edit)
-- A start succeeds.
entered h does.Start = Some (done h true)
-- An end ends the task well.
entered h does.End = Some (moves h.number (in_phase h.task (phase.Ended true)) ∷ [])
-- An action opens its scope and comes to its first place.
entered h (does.Action commands agent targets in_args out_args) =
    Some (opening h ∷ moves h.number (in_phase (inside h).task (phase.Sending 0)) ∷ [])
-- A playbook-action opens its scope and calls the playbook.
entered h (does.PlaybookAction playbook version in_args out_args) =
    option_map (λ theirs. opening h
    ∷ called (inside h) (length h.seen.lists.scopes) in_args theirs) (book_with h.seen.given playbook)
-- A control step opens its scope and takes branches.
entered h (does.Parallel next) = Some (controlled h (does.Parallel next))
entered h (does.If condition on_true on_false) = Some (controlled h (does.If condition on_true on_false))
entered h (does.While condition on_true) = Some (controlled h (does.While condition on_true))
entered h (does.Switch subject cases) = Some (controlled h (does.Switch subject cases))

-- ---- Walk of a task that joins, once each of its children from a number on has ended

abbrev pub is_child_of : ℕ → Task → Bool
is_child_of t task = option_map_or (nat_eq t) task.parent false

-- the children of a task from a number on
abbrev pub children : Lists → ℕ → ℕ → List Task
children s t from = filter (is_child_of t) (drop from s.tasks)

abbrev pub has_ended : Phase → Bool
has_ended (phase.Ended well) = true
has_ended other = false

abbrev pub has_failed : Phase → Bool
has_failed (phase.Ended well) = not well
has_failed other = false

-- What a step does after its branches ended well.
abbrev pub rejoined : Here → ℕ → ℕ → StepKind → List Edit
-- A while-condition tests its condition again: it makes a further task, and goes on waiting for all of them, or succeeds.
rejoined h from scope (does.While condition on_true) =
    if is_true h.seen.lists scope condition then makes (child h h.task.book scope on_true) ∷ [] else done h true
-- A playbook-action writes what `out_args` have in the called playbook's scope, from the step's scope, and succeeds.
rejoined h from scope (does.PlaybookAction playbook version in_args out_args) =
    flat_map (written h.seen.lists scope)
    (option_map_or (λ root. valued h.seen.lists root.scope out_args) (slice_get h.seen.lists.tasks from) [])
    ++ done h true
-- Any other succeeds.
rejoined h from scope other = done h true

-- While one of the branches goes on there is no Walk. Once all have ended, the step fails if one of them has failed.
abbrev pub joined : Here → ℕ → ℕ → List Task → Option (List Edit)
joined h from scope branches =
    if not (list_all (λ task. has_ended task.phase) branches) then None
    else if list_any (λ task. has_failed task.phase) branches then Some (done h false)
    else Some (rejoined h from scope h.step.kind)

-- A task that joins has a step scope on every state of a run; without one there is no Walk.
abbrev pub walked : Here → Phase → Option (List Edit)
walked h (phase.At since) = if nat_le (since + h.step.delay) h.now then entered h h.step.kind else None
walked h (phase.Joining from) =
    option_and_then (λ scope. joined h from scope (children h.seen.lists h.number from)) h.task.step_scope
walked h other = None

abbrev pub walk : Shown → ℕ → ℕ → Option (List Edit)
walk s now t = option_and_then (λ (h : Here). walked h h.task.phase) (here_at s now t)

-- ---- Send and Ask: the place at which a task stands

abbrev pub place_at : Here → Phase → Option Place
place_at h (phase.Sending n) = slice_get (places h.step.kind) n
place_at h other = None

-- the number of that place
abbrev pub place_number : Phase → ℕ
place_number (phase.Sending n) = n
place_number other = 0

-- The issue of a filter's place is the filled command, for the filter that is bound to its addressee; that of an operator's
-- place is the text with its references replaced, for agent 0. A task that sends has a step scope, and each place a content, on
-- every state of a run.
abbrev pub issue_with : Here → ℕ → List ℕ → Issue
issue_with h agent bytes =
    record { task = h.number; agent = agent; bytes = bytes; moment = h.now; phase = issue_phase.Waiting }

abbrev pub command_at : Here → Place → Option Issue
command_at h (to_filter content to) = do
  text ← content
  scope ← h.task.step_scope
  bytes ← fill text h.seen.lists scope h.seen.run (length h.seen.lists.issues)
  Some (issue_with h (filter_of h.seen.given.agents to) bytes)
command_at h (to_operator content) = None

abbrev pub question_at : Here → Place → Option Issue
question_at h (to_operator content) = do
  text ← content
  scope ← h.task.step_scope
  Some (issue_with h 0 (replaced h.seen.lists scope text))
question_at h (to_filter content to) = None

-- a new issue, and the task waits for its end
abbrev pub Issuing : Type 0
Issuing = Issue × List Edit

abbrev pub issuing : Here → Issue → Issuing
issuing h issue = (
  issue,
  issues issue
      ∷ moves h.number (in_phase h.task (phase.Awaiting (place_number h.task.phase) (length h.seen.lists.issues))) ∷ [],
)

-- the command that a task sends next
abbrev pub next_command : Shown → ℕ → ℕ → Option Issuing
next_command s now t = do
  h ← here_at s now t
  place ← place_at h h.task.phase
  issue ← command_at h place
  Some (issuing h issue)

-- what a task asks an operator next
abbrev pub next_question : Shown → ℕ → ℕ → Option Issuing
next_question s now t = do
  h ← here_at s now t
  place ← place_at h h.task.phase
  issue ← question_at h place
  Some (issuing h issue)

-- A Send names that very issue: its number, which is the number of issues so far, its filter and its bytes.
abbrev pub send : Shown → ℕ → ℕ → ℕ → ℕ → List ℕ → Option (List Edit)
send s now t number agent bytes = do
  made ← next_command s now t
  if (number == length s.lists.issues) && (agent == (made.0).agent) && bytes_eq bytes (made.0).bytes then Some made.1 else None

-- So does an Ask, which comes once the run is upgraded.
abbrev pub ask : Shown → ℕ → ℕ → ℕ → List ℕ → Option (List Edit)
ask s now t number bytes = do
  made ← next_question s now t
  if s.lists.is_upgraded && (number == length s.lists.issues) && bytes_eq bytes (made.0).bytes then Some made.1 else None

-- ---- Reply, Told and Expire: an issue that waits

-- the status codes of OpenC2 Language 1.0 that end an issue: all but 102
abbrev pub final_statuses : List ℕ
final_statuses = 200 ∷ 400 ∷ 401 ∷ 403 ∷ 404 ∷ 500 ∷ 501 ∷ 503 ∷ []

abbrev pub is_final : ℕ → Bool
is_final status = list_any (nat_eq status) final_statuses

-- a final status, and a text in UTF-8 of at most 4,096 bytes
abbrev pub is_answer : ℕ → List ℕ → Bool
is_answer status text = is_final status && is_utf8 text && nat_le (length text) most_status_text

abbrev pub is_waiting : IssuePhase → Bool
is_waiting issue_phase.Waiting = true
is_waiting other = false

-- an issue that waits, the task that waits for it, its place, and the scope of its step
pub record Waiting : Type 0 where
  pub issue : Issue
  pub here : Here
  pub place : ℕ
  pub scope : ℕ

-- the place at which a task awaits the issue with this number
abbrev pub awaited_place : ℕ → Phase → Option ℕ
awaited_place n (phase.Awaiting place issue) = if issue == n then Some place else None
awaited_place n other = None

-- On every state of a run the task of an issue that waits awaits it, and has a step scope; else there is no such issue.
abbrev pub waiting_at : Shown → ℕ → ℕ → Option Waiting
waiting_at s now n = do
  issue ← slice_get s.lists.issues n
  h ← here_at s now issue.task
  place ← awaited_place n h.task.phase
  scope ← h.task.step_scope
  if is_waiting issue.phase then Some (record { issue = issue; here = h; place = place; scope = scope }) else None

-- the same of an issue of a filter
abbrev pub waiting_filter_at : Shown → ℕ → ℕ → Option Waiting
waiting_filter_at s now n = do
  w ← waiting_at s now n
  if w.issue.agent == 0 then None else Some w

-- What `out_args` get: the status, the number of a rule if there is one, the status text.
abbrev pub results : ℕ → ℕ → List ℕ → List (Option (List ℕ))
results status rule text = Some (decimal status) ∷ (if rule == 0 then None else Some (decimal rule)) ∷ Some text ∷ []

abbrev pub out_args_of : StepKind → List (List ℕ)
out_args_of (does.Action commands agent targets in_args out_args) = out_args
out_args_of other = []

-- Status 200 leads to the next place, and after the last one the step succeeds. Any other status fails it.
abbrev pub after_answer : Waiting → ℕ → Task
after_answer w status =
    if not (status == 200) then finish w.here false
    else if is_some (slice_get (places w.here.step.kind) (suc w.place)) then in_phase w.here.task (phase.Sending (suc w.place))
    else finish w.here true

-- The issue ends so, the results are written from the step's scope, and the task goes on.
abbrev pub answered : ℕ → IssuePhase → ℕ → ℕ → List ℕ → Waiting → List Edit
answered n end status rule text w =
    closes n end
    ∷ (flat_map (written w.here.seen.lists w.scope) (paired (out_args_of w.here.step.kind) (results status rule text))
    ++ moves w.here.number (after_answer w status) ∷ [])

-- A Reply answers an issue of a filter.
abbrev pub reply : Shown → ℕ → ℕ → ℕ → ℕ → List ℕ → Option (List Edit)
reply s now n status rule text =
    if is_answer status text
    then option_map (answered n (issue_phase.Answered status) status rule text) (waiting_filter_at s now n) else None

-- A Told ends any issue, of a filter or of an operator, once the run is upgraded. It has no rule number.
abbrev pub tell : Shown → ℕ → ℕ → ℕ → List ℕ → Option (List Edit)
tell s now n status text =
    if s.lists.is_upgraded && is_answer status text
    then option_map (answered n (issue_phase.Told status) status 0 text) (waiting_at s now n) else None

-- An Expire fails the step of an issue of a filter, from the step's timeout on.
abbrev pub expired : ℕ → Waiting → Option (List Edit)
expired n w =
    if nat_le (w.issue.moment + w.here.step.timeout) w.here.now
    then Some (closes n issue_phase.Expired ∷ done w.here false) else None

abbrev pub expire : Shown → ℕ → ℕ → Option (List Edit)
expire s now n = option_and_then (expired n) (waiting_filter_at s now n)

-- ---- Upgrade

-- how the first task has ended, if it has: how the run has ended
abbrev pub ended_how : Phase → Option Bool
ended_how (phase.Ended well) = Some well
ended_how other = None

abbrev pub outcome : Lists → Option Bool
outcome s = option_and_then (λ task. ended_how task.phase) (slice_get s.tasks 0)

-- An Upgrade to version 2 comes once, while the run goes on.
abbrev pub upgrade : Lists → ℕ → Option (List Edit)
upgrade s version = if (version == 2) && is_none (outcome s) && not s.is_upgraded then Some (upgrades ∷ []) else None

-- ---- all records

abbrev pub moment_of : Record → ℕ
moment_of (entry.Begin run moment books bind) = moment
moment_of (entry.Walk task moment) = moment
moment_of (entry.Send task issue agent moment bytes) = moment
moment_of (entry.Reply issue moment status rule text) = moment
moment_of (entry.Expire issue moment) = moment
moment_of (entry.Upgrade version moment) = moment
moment_of (entry.Ask task issue moment bytes) = moment
moment_of (entry.Told issue moment status text) = moment

-- A Begin stands before all others and comes no second time.
abbrev pub edits_of : Shown → Record → Option (List Edit)
edits_of s (entry.Begin run moment books bind) = None
edits_of s (entry.Walk task moment) = walk s moment task
edits_of s (entry.Send task issue agent moment bytes) = send s moment task issue agent bytes
edits_of s (entry.Reply issue moment status rule text) = reply s moment issue status rule text
edits_of s (entry.Expire issue moment) = expire s moment issue
edits_of s (entry.Upgrade version moment) = upgrade s.lists version
edits_of s (entry.Ask task issue moment bytes) = ask s moment task issue bytes
edits_of s (entry.Told issue moment status text) = tell s moment issue status text

-- a moment at which a record may come next: no earlier than the record before, and at most the last one
abbrev pub is_in_time : Shown → ℕ → Bool
is_in_time s now = nat_le s.moment now && nat_le now last_moment

-- What a record changes, where it may come next.
abbrev pub change : Shown → Record → Option (List Edit)
change s r = if is_in_time s (moment_of r) then edits_of s r else None
