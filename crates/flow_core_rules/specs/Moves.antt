-- Promise: The moves that a run makes by itself, and the moments that it waits for.
use Rattle.std.specs.Prelude.{ℕ, suc, ◌+◌, ◌==◌, ◌&&◌, not, Bool, List, [], ◌∷◌, ◌++◌, min, Option, Some, None, is_some, option_map, option_and_then, slice_get, length, if◌then◌else◌}
use Rattle.std.specs.List.{list_all, flat_map}
use Rattle.std.specs.Option.{option_map_or, option_or}
use Rattle.run_records.specs.declared.record.Record.{Record}
use Rattle.run_records.specs.declared.record.Record.TheVariants as entry
use Rattle.flow_core_rules.specs.declared.tasks.Task.{Task}
use Rattle.flow_core_rules.specs.declared.issues.Issue.{Issue}
use Rattle.flow_core_rules.specs.declared.phases.Phase.{Phase}
use Rattle.flow_core_rules.specs.declared.phases.Phase.TheVariants as phase
use Rattle.flow_core_rules.specs.declared.moves.Move.{Move}
use Rattle.flow_core_rules.specs.declared.moves.Move.TheVariants as move
use Rattle.flow_core_rules.specs.Givens.{step_at}
use Rattle.flow_core_rules.specs.State.{Shown}
use Rattle.flow_core_rules.specs.Changes.{children, has_ended, is_waiting, walk, next_command, next_question, upgrade, is_in_time}

-- The move of a task at a moment, if it has one: to go on, to send, or to ask. A question comes once the run is upgraded, so
-- first there is the Upgrade.
abbrev pub move_at : Shown → ℕ → ℕ → Option Move
move_at s now t =
    if is_some (walk s now t) then Some (move.Walk t)
    else if is_some (next_command s now t) then Some (move.Send t)
    else if not (is_some (next_question s now t)) then None
    else if s.lists.is_upgraded then Some (move.Ask t)
    else if is_some (upgrade s.lists 2) then Some move.Upgrade
    else None

-- the move of the least-numbered of these tasks that has one; the first has this number
abbrev pub first_move : Shown → ℕ → ℕ → List Task → Option Move
first_move s now t [] = None
first_move s now t (task ∷ tasks) = option_or (move_at s now t) (first_move s now (suc t) tasks)

-- the move of the least-numbered task that has one at a moment at which a record may come next
abbrev pub enabled_move : Shown → ℕ → Option Move
enabled_move s now = if is_in_time s now then first_move s now 0 s.lists.tasks else None

-- the record of a move
abbrev pub record_of : Shown → ℕ → Move → Option Record
record_of s now (move.Walk t) = Some (entry.Walk t now)
record_of s now (move.Send t) =
    option_map (λ made. entry.Send t (length s.lists.issues) (made.0).agent now (made.0).bytes) (next_command s now t)
record_of s now (move.Ask t) = option_map (λ made. entry.Ask t (length s.lists.issues) now (made.0).bytes) (next_question s now t)
record_of s now move.Upgrade = Some (entry.Upgrade 2 now)

-- ---- moments

abbrev pub delay_of : Shown → Task → ℕ
delay_of s task = option_map_or (λ step. step.delay) (step_at s.given task.book task.step) 0

-- the moment from which a task can move, if it stands where it can: before its step, at a place, or where all that it waited
-- for has ended
abbrev pub ready_at : Shown → ℕ → Task → Phase → Option ℕ
ready_at s t task (phase.At since) = Some (since + delay_of s task)
ready_at s t task (phase.Sending place) = Some 0
ready_at s t task (phase.Joining from) = if list_all (λ one. has_ended one.phase) (children s.lists t from) then Some 0 else None
ready_at s t task other = None

-- the tasks that can move, each behind the moment from which it can; the first task has this number
abbrev pub ready_from : Shown → ℕ → List Task → List (ℕ × ℕ)
ready_from s t [] = []
ready_from s t (task ∷ tasks) =
    option_map_or (λ moment. (moment, t) ∷ ready_from s (suc t) tasks) (ready_at s t task task.phase) (ready_from s (suc t) tasks)

abbrev pub ready_set : Shown → List (ℕ × ℕ)
ready_set s = ready_from s 0 s.lists.tasks

-- the moments at which the delays of tasks that stand before their steps run out
abbrev pub delay_until : Shown → Task → Phase → List ℕ
delay_until s task (phase.At since) = (since + delay_of s task) ∷ []
delay_until s task other = []

abbrev pub delays : Shown → List ℕ
delays s = flat_map (λ task. delay_until s task task.phase) s.lists.tasks

-- the moment of an issue and the timeout of its task's step
abbrev pub timeout_of : Shown → Issue → ℕ
timeout_of s issue =
    option_map_or (λ step. step.timeout)
    (option_and_then (λ task. step_at s.given task.book task.step) (slice_get s.lists.tasks issue.task)) 0

abbrev pub deadline_of : Shown → Issue → ℕ
deadline_of s issue = issue.moment + timeout_of s issue

-- an issue of a filter that waits has a deadline; what an operator was asked has none
abbrev pub has_deadline : Issue → Bool
has_deadline issue = is_waiting issue.phase && not (issue.agent == 0)

-- the deadlines, each with its issue; the first issue has this number
abbrev pub deadlines_from : Shown → ℕ → List Issue → List (ℕ × ℕ)
deadlines_from s n [] = []
deadlines_from s n (issue ∷ others) =
    if has_deadline issue then (deadline_of s issue, n) ∷ deadlines_from s (suc n) others else deadlines_from s (suc n) others

abbrev pub deadlines : Shown → List (ℕ × ℕ)
deadlines s = deadlines_from s 0 s.lists.issues

abbrev pub least : List ℕ → Option ℕ
least [] = None
least (n ∷ ns) = Some (option_map_or (min n) (least ns) n)

-- the least moment at which a delay or a deadline that stands runs out
abbrev pub due : Shown → Option ℕ
due s = least (delays s ++ flat_map (λ deadline. deadline.0 ∷ []) (deadlines s))

-- the least issue that waits for an operator
abbrev pub is_question : Issue → Bool
is_question issue = is_waiting issue.phase && (issue.agent == 0)

abbrev pub first_question : ℕ → List Issue → Option ℕ
first_question n [] = None
first_question n (issue ∷ others) = if is_question issue then Some n else first_question (suc n) others

abbrev pub asks : Shown → Option ℕ
asks s = first_question 0 s.lists.issues
