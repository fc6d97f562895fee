use Rattle.cacao_view_preflight_law.proofs.ForetoldLemmas.{foretells_runs}
use Rattle.cacao_view_preflight_law.proofs.preflight_law.Goals as goal

pub returns : goal.returns
returns c = record { foretold = foretells_runs }
