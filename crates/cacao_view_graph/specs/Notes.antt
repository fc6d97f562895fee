-- Promise: What is noted at the steps of a run: the tasks that stand there and those that ended failed there, and the issues.
use Rattle.std.specs.Prelude.{◌≡◌, ℕ, suc, true, false, List, [], ◌∷◌, ◌++◌, codes, decimal}
use Rattle.flow_core_rules.specs.Lines.{agent_word, issue_words, line_from, well_words}
use Rattle.flow_core_rules.specs.State.{Shown}
use Rattle.flow_core_rules.specs.declared.issues.Issue.{Issue}
use Rattle.flow_core_rules.specs.declared.phases.Phase.{Phase}
use Rattle.flow_core_rules.specs.declared.phases.Phase.TheVariants as phase
use Rattle.flow_core_rules.specs.declared.tasks.Task.{Task}
use Rattle.cacao_view_graph.specs.declared.note.Note.{Note}
use Rattle.cacao_view_graph.specs.declared.marks.Marks.{Marks}
use Rattle.cacao_view_graph.specs.declared.spot.Spot.{Spot}
use Rattle.cacao_view_graph.specs.Courses.{spot_of}

-- of a task that goes on, that it stands there; of one that ended failed, that; of one that ended well nothing
abbrev pub task_text : ℕ → Phase → List ℕ
task_text t (phase.Ended true) = []
task_text t (phase.Ended false) = line_from (codes "task") (decimal t ∷ well_words false)
task_text t other = line_from (codes "task") (decimal t ∷ codes "stands" ∷ codes "here" ∷ [])

abbrev pub note_at : Spot → List ℕ → Note
note_at spot text = record { spot = spot; text = text }

abbrev pub task_note : ℕ → Task → Note
task_note t task = note_at (spot_of task) (task_text t task.phase)

abbrev pub task_notes : ℕ → List Task → List Note
task_notes t [] = []
task_notes t (task ∷ tasks) = task_note t task ∷ task_notes (suc t) tasks

-- of an issue the line that `show` says of it
abbrev pub issue_text : ℕ → Issue → List ℕ
issue_text n issue = line_from (codes "issue") (decimal n ∷ agent_word issue.agent ∷ issue_words issue.phase)

abbrev pub issue_note : ℕ → Spot → Issue → Note
issue_note n spot issue = note_at spot (issue_text n issue)

-- each at the step from which it was sent
abbrev pub issue_notes : ℕ → List Spot → List Issue → List Note
issue_notes n (spot ∷ spots) (issue ∷ issues) = issue_note n spot issue ∷ issue_notes (suc n) spots issues
issue_notes n spots issues = []

abbrev pub notes_of : Shown → List Spot → List Note
notes_of s sent = task_notes 0 s.lists.tasks ++ issue_notes 0 sent s.lists.issues

-- the marks of a run that shows this, walked at these steps, and sent from those
pub record AreMarks (s : Shown) (walked sent : List Spot) (marks : Marks) : Type 0 where
  pub walked_are : marks.walked.items ≡ walked
  pub notes_are : marks.notes.items ≡ notes_of s sent
