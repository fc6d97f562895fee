use Rattle.std.proofs.Common.{List, length, subst, sym}
use Rattle.cacao_view_graph.specs.Tallies.{AllTallied, HaveTallies}
use Rattle.cacao_view_graph.specs.declared.tally.Tally.{Tally}
use Rattle.cacao_view_graph.proofs.TallyLemmas.{have_tallies}
use Rattle.cacao_view_graph.proofs.placing.placed_book.Goals as goal

pub placed_steps-requires-clause-tallied : goal.placed_steps-requires-clause-tallied
placed_steps-requires-clause-tallied c =
    let steps = length c.members_at-pairs.result.now in
    subst (λ (l : List Tally). HaveTallies c.args.marks.now steps l) (sym c.as_slice.ensures.value)
    (have_tallies c.args.marks.now c.args.number steps c.in_ok-tallies.tallies.items c.in_ok-tallies.ensures)

pub returns-clause-marked : goal.returns-clause-marked
returns-clause-marked c =
    c.in_ok-steps.ensures.marked c.args.number
    (subst (λ (l : List Tally). AllTallied c.args.marks.now c.args.number (length c.members_at-pairs.result.now) l) (sym c.as_slice.ensures.value) c.in_ok-tallies.ensures)
