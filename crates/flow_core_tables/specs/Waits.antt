-- Scaffold: What an edit of the tasks changes in the tables.
use Rattle.std.specs.Prelude.{ℕ, ◌+◌, ◌-◌, ◌==◌, ◌||◌, nat_eq, Bool, false, Option, Some, None, if◌then◌else◌}
use Rattle.std.specs.Option.{option_map_or}
use Rattle.flow_core_rules.specs.declared.tasks.Task.{Task}
use Rattle.flow_core_rules.specs.declared.phases.Phase.{Phase}
use Rattle.flow_core_rules.specs.declared.phases.Phase.TheVariants as phase
use Rattle.flow_core_rules.specs.declared.issues.Issue.{Issue}
use Rattle.flow_core_rules.specs.Givens.{Given, step_at}
use Rattle.flow_core_rules.specs.Moves.{has_deadline, is_question}
use Rattle.flow_core_tables.specs.declared.tables.Wait.{Wait}

-- the delay and the timeout of the step at which a task stands
abbrev pub delay_by : Given → Task → ℕ
delay_by given task = option_map_or (λ step. step.delay) (step_at given task.book task.step) 0

abbrev pub timeout_by : Given → Task → ℕ
timeout_by given task = option_map_or (λ step. step.timeout) (step_at given task.book task.step) 0

-- the moment from which a task can go on that no child keeps back
abbrev pub ready_alone : Given → Task → Phase → Option ℕ
ready_alone given task (phase.At since) = Some (since + delay_by given task)
ready_alone given task (phase.Sending place) = Some 0
ready_alone given task (phase.Joining from) = Some 0
ready_alone given task other = None

-- the moment at which its delay runs out, where it stands before its step
abbrev pub delay_alone : Given → Task → Phase → Option ℕ
delay_alone given task (phase.At since) = Some (since + delay_by given task)
delay_alone given task other = None

-- the deadline of a new issue of a task, if it has one
abbrev pub deadline_by : Given → Task → Issue → Option ℕ
deadline_by given task issue = if has_deadline issue then Some (issue.moment + timeout_by given task) else None

abbrev pub question_by : Issue → Option ℕ
question_by issue = if is_question issue then Some 0 else None

-- no task is waited for
abbrev pub blank_wait : Wait
blank_wait = record { «open» = 0; failed = false }

-- one task more that goes on
abbrev pub one_more : Wait → Wait
one_more wait = record { «open» = wait.open + 1; failed = wait.failed }

-- one of them has ended
abbrev pub one_less : Bool → Wait → Wait
one_less failed wait = record { «open» = wait.open - 1; failed = wait.failed || failed }

-- the moment from which a task can go on that waits for so many
abbrev pub ready_after : ℕ → Option ℕ
ready_after n = if n == 0 then Some 0 else None

-- the task that waits for the end of this one, where it has ended
abbrev pub told : Option ℕ → Phase → Option ℕ
told parent (phase.Ended well) = parent
told parent other = None

-- the same number, if there is one
abbrev pub is_that : ℕ → Option ℕ → Bool
is_that n o = option_map_or (nat_eq n) o false
