-- Scaffold: What a task issues, and an issue that waits, as they are found.
use Rattle.std.specs.Prelude.{ℕ, ◌<◌, List, [], ◌∷◌, length}
use Rattle.flow_core_rules.specs.declared.issues.Issue.{Issue}
use Rattle.flow_core_rules.specs.declared.issues.IssuePhase.TheVariants as issue_phase
use Rattle.flow_core_rules.specs.State.{Shown}
use Rattle.flow_core_rules.specs.Edits.{issues, moves}
use Rattle.flow_core_rules.specs.Changes.{Issuing, Waiting}
use Rattle.flow_core_values.specs.declared.run.Run.{Run}
use Rattle.flow_core_values.specs.declared.run.Stand.{Stand}
use Rattle.flow_core_plans.specs.declared.issuing.Made.{Made}
use Rattle.flow_core_plans.specs.declared.answers.Awaited.{Awaited}
use Rattle.flow_core_values.specs.RunFacts.{here_of}
use Rattle.flow_core_values.specs.Stands.{StandsThere}

-- a new issue, with the edits of its record
abbrev pub made_of : ℕ → Made → Issuing
made_of t made = (made.issue, issues made.issue ∷ moves t made.task ∷ [])

-- a new issue of a task
abbrev pub new_issue : Stand → ℕ → List ℕ → Issue
new_issue stand agent bytes =
    record { task = stand.number; agent = agent; bytes = bytes; moment = stand.now; phase = issue_phase.Waiting }

-- an issue that waits
abbrev pub waiting_of : Shown → Awaited → Waiting
waiting_of s awaited = record {
  issue = awaited.issue.now;
  here = here_of s awaited.stand;
  place = awaited.place;
  scope = awaited.scope;
}

-- the task of the issue stands there, and so does the scope of its step
pub record WaitsThere (r : Run) (awaited : Awaited) : Type 0 where
  pub stands : StandsThere r awaited.stand
  pub scope_is : awaited.scope < length r.tables.opened.scopes
