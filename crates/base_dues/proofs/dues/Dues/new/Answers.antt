use Rattle.base_dues.proofs.ListedLemmas.{listed_nil}
use Rattle.base_dues.proofs.dues.Dues.new.Goals as goal

pub returns-clause-pairs : goal.returns-clause-pairs
returns-clause-pairs c = listed_nil c.new.result c.new.ensures
