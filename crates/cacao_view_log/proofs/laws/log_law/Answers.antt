use Rattle.cacao_view_log.proofs.LawLemmas.{lines_are_said, objects_read_back}
use Rattle.cacao_view_log.proofs.TreeLemmas.{objects_have_trees}
use Rattle.cacao_view_log.proofs.laws.log_law.Goals as goal

pub returns : goal.returns
returns c = record { lines = lines_are_said; trees = objects_have_trees; back = objects_read_back }
