use Rattle.std.proofs.Common.{◌++◌}
use Rattle.cacao_view_graph.specs.Notes.{task_notes}
use Rattle.cacao_view_graph.proofs.NoteLemmas.{NotesTasks}
use Rattle.cacao_view_graph.proofs.noting.note_tasks.Given as goal

abbrev pub invariant-loop-task : goal.invariant-loop-task
invariant-loop-task l = NotesTasks l.flow.seen l.task l.rest l.notes.items (l.fn.notes.items ++ task_notes 0 l.flow.seen.lists.tasks)
