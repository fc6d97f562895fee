use Rattle.std.proofs.Common.{◌∙◌, ◌++◌, ℕ, List, sym, ap, arith}
use Rattle.cacao_view_graph.specs.declared.tally.Tally.{Tally}
use Rattle.cacao_view_graph.proofs.TallyLemmas.{note_past, note_there}
use Rattle.cacao_view_graph.proofs.tally.add_note.Goals as goal

pub returns-then-step-tallies-clause-each : goal.returns-then-step-tallies-clause-each
returns-then-step-tallies-clause-each c = note_past c.args.book c.args.note.now c.args.tallies.now (let past = c.if-step-tallies.true in omega (arith, past))

pub returns-clause-each : goal.returns-clause-each
returns-clause-each c =
    let old = c.index-tallies-step.result in
    note_there c.args.book c.args.note.now c.args.tallies.now c.index-tallies-step.result c.add_text.new.tally c.if-note-book.false c.if-step-tallies.false c.index-tallies-step.is
    (c.in_ok-add_text.ensures.walks ∙ ap (λ (t : Tally). t.walks) (sym c.index-tallies-step.is))
    (c.in_ok-add_text.ensures.text ∙ ap (λ (t : Tally). t.text.items ++ c.as_slice.result.now) (sym c.index-tallies-step.is) ∙ ap (λ (l : List ℕ). old.text.items ++ l) c.as_slice.ensures)
