use Rattle.cacao_view_graph.proofs.placing.placed_step.Goals as goal

pub returns-clause-marked : goal.returns-clause-marked
returns-clause-marked c = λ number tallied. let mark = c.in_ok-mark.ensures number tallied in record { notes = mark.text; pale = mark.pale }
