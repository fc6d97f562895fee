use Rattle.std.proofs.Common.{◌∙◌, ◌<◌, ◌+◌, sym, ap, subst, arith}
use Rattle.cacao_view_graph.specs.declared.tally.Tally.{Tally}
use Rattle.cacao_view_graph.proofs.TallyLemmas.{few_there, walk_past, walk_there}
use Rattle.cacao_view_graph.proofs.tally.count_walk.Goals as goal

pub returns-then-step-tallies-clause-each : goal.returns-then-step-tallies-clause-each
returns-then-step-tallies-clause-each c = walk_past c.args.book c.args.spot c.args.tallies.now (let past = c.if-step-tallies.true in omega (arith, past))

pub add_walk-requires : goal.add_walk-requires
add_walk-requires c =
    subst (λ (t : Tally). t.walks < 18446744073709551615) c.index-tallies-step.is
    (few_there c.args.tallies.now c.args.spot.step c.index-tallies-step.result c.requires c.if-step-tallies.false c.index-tallies-step.is)

pub returns-clause-each : goal.returns-clause-each
returns-clause-each c =
    walk_there c.args.book c.args.spot c.args.tallies.now c.index-tallies-step.result c.add_walk.new.tally c.if-spot-book.false c.if-step-tallies.false c.index-tallies-step.is
    (c.add_walk.ensures.walks ∙ ap (λ (t : Tally). t.walks + 1) (sym c.index-tallies-step.is)) (c.add_walk.ensures.text ∙ ap (λ (t : Tally). t.text.items) (sym c.index-tallies-step.is))
