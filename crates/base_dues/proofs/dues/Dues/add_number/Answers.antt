use Rattle.std.proofs.Common.{◌+◌, ◌<◌, ap, sym, subst, ◌∙◌}
use Rattle.base_dues.specs.Pairs.{Queue}
use Rattle.base_dues.proofs.ListedLemmas.{listed_push}
use Rattle.base_dues.proofs.LeastLemmas.{kept_more}
use Rattle.base_dues.proofs.dues.Dues.add_number.Goals as goal

pub returns-clause-pairs : goal.returns-clause-pairs
returns-clause-pairs c = listed_push c.self.inside.moments c.push_none.new.self c.in_ok-push_none.ensures.ok ∙ ap (λ (q : Queue). q.pairs) c.self.view_is

pub invariant_of-self-2 : goal.invariant_of-self-2
invariant_of-self-2 c =
    kept_more c.self.inside.moments c.self.inside.low c.self.inside.middle c.self.inside.high c.add_block-3.new.least c.add_block-2.new.least c.add_block.new.least c.push_none.new.self
    c.self.inside.count c.self.invariant
    c.add_block.ensures.tells c.in_ok-add_block.ensures.ok c.add_block.ensures.few
    c.add_block-2.ensures.tells c.in_ok-add_block-2.ensures.ok c.add_block-2.ensures.few c.add_block-2.ensures.above
    c.add_block-3.ensures.tells c.in_ok-add_block-3.ensures.ok c.add_block-3.ensures.few c.add_block-3.ensures.above
    c.in_ok-push_none.ensures.ok (subst (λ (q : Queue). q.room + 1 < 4294967296) (sym c.self.view_is) c.requires)
