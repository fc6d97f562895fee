use Rattle.std.proofs.Common.{◌++◌}
use Rattle.cacao_view_graph.specs.Notes.{issue_notes}
use Rattle.cacao_view_graph.proofs.NoteLemmas.{NotesIssues}
use Rattle.cacao_view_graph.proofs.noting.note_issues.Given as goal

abbrev pub invariant-loop-issue : goal.invariant-loop-issue
invariant-loop-issue l = NotesIssues l.flow.seen l.sent l.issue l.rest l.notes.items (l.fn.notes.items ++ issue_notes 0 l.sent l.flow.seen.lists.issues)
