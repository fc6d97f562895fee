use Rattle.base_dues.proofs.ListedLemmas.{inserted}
use Rattle.base_dues.proofs.dues.Dues.insert.Goals as goal

pub returns-clause-pairs : goal.returns-clause-pairs
returns-clause-pairs c = inserted c.args.self.now.pairs c.give.new.self.pairs c.args.moment c.args.number c.give.ensures.was c.give.ensures.queue c.give.ensures.each
