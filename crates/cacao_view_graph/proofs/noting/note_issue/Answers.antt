use Rattle.std.proofs.Common.{ℕ, List, [], ◌∷◌, ◌++◌, ◌∙◌, ap}
use Rattle.cacao_view_graph.specs.Notes.{note_at}
use Rattle.cacao_view_graph.proofs.noting.note_issue.Goals as goal

pub returns-clause-notes : goal.returns-clause-notes
returns-clause-notes c =
    c.in_ok-push.ensures.items ∙ ap (λ (t : List ℕ). c.args.notes.now.items ++ note_at c.args.spot t ∷ []) (c.in_ok-text.ensures ∙ c.first_line.ensures)
