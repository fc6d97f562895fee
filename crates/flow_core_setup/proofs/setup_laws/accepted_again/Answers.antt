use Rattle.flow_core_setup.proofs.SetupAgain.{accepted_again}
use Rattle.flow_core_setup.proofs.setup_laws.accepted_again.Goals as goal

pub returns : goal.returns
returns c = accepted_again c.canonical_law.ensures.trees c.canonical_law.ensures.reads_back c.canonical_law.ensures.book_reads_back c.canonical_law.ensures.book_fixed
