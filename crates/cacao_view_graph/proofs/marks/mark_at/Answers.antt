use Rattle.cacao_view_graph.proofs.TallyLemmas.{marked_there}
use Rattle.cacao_view_graph.proofs.marks.mark_at.Goals as goal

pub returns-in-Some : goal.returns-in-Some
returns-in-Some c =
    marked_there c.args.marks.now c.in-Some.field-0 c.args.step c.args.tallies.now c.index-tallies-step.result c.mark_of.result c.in-Some.is c.index-tallies-step.is c.mark_of.ensures.text c.mark_of.ensures.pale
