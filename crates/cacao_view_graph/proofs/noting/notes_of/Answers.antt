-- The lines of tasks stand behind the head.
use Rattle.std.proofs.Common.{◌∙◌, ◌++◌, List, ap}
use Rattle.cacao_view_graph.specs.declared.note.Note.{Note}
use Rattle.cacao_view_graph.specs.Cutting.{behind_head}
use Rattle.cacao_view_graph.specs.Notes.{issue_notes, task_notes}
use Rattle.cacao_view_graph.proofs.RunLineLemmas.{head_is}
use Rattle.cacao_view_graph.proofs.noting.notes_of.Goals as goal

pub note_tasks-requires : goal.note_tasks-requires
note_tasks-requires c =
    c.behind_head.ensures ∙ ap behind_head (c.as_slice.ensures ∙ c.in_ok-report.ensures) ∙ head_is c.args.flow.now.seen c.args.flow.now.count

pub returns : goal.returns
returns c =
    let s = c.args.flow.now.seen in
    c.in_ok-note_issues.ensures ∙ ap (λ (l : List Note). l ++ issue_notes 0 c.args.sent.now s.lists.issues)
    (c.in_ok-rest.ensures.notes ∙ ap (λ (l : List Note). l ++ task_notes 0 s.lists.tasks) c.new-notes.ensures.items)
