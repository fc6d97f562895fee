use Rattle.cacao_view_graph.proofs.SentLemmas.{issues_have_steps}
use Rattle.cacao_view_graph.proofs.run_laws.run_picture_law.Goals as goal

pub returns : goal.returns
returns c = record { issues = issues_have_steps }
