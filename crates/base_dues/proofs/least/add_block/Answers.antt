use Rattle.base_dues.proofs.LeastLemmas.{AreLeast-number}
use Rattle.base_dues.proofs.least.add_block.Goals as goal

pub returns-clause-above : goal.returns-clause-above
returns-clause-above c = λ above tells room. rw c.in_ok-push_none.ensures.ok (AreLeast-number c.args.least.now above tells room)
