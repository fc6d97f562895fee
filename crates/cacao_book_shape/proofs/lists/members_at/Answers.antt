use Rattle.std.proofs.Common.{sym, subst, ◌∙◌}
use Rattle.serde_json.specs.Find.{get}
use Rattle.cacao_json.specs.Tree.{data_of}
use Rattle.cacao_book_shape.specs.Orders.{IsRising}
use Rattle.cacao_book_shape.proofs.ListLemmas.{members_found}
use Rattle.cacao_book_shape.proofs.lists.members_at.Goals as goal

pub returns-in-Some-members_of-clause-members : goal.returns-in-Some-members_of-clause-members
returns-in-Some-members_of-clause-members c =
    sym c.pairs.ensures.members
    ∙ sym (members_found (get c.args.name.now (data_of c.args.tree.now)) (data_of c.in-Some.value.now) c.in-Some-members_of.members.now c.in-Some.ensures.value c.in-Some-members_of.ensures c.pairs.ensures.rising)

pub returns-in-Some-members_of-clause-rising : goal.returns-in-Some-members_of-clause-rising
returns-in-Some-members_of-clause-rising c =
    subst IsRising
    (sym (members_found (get c.args.name.now (data_of c.args.tree.now)) (data_of c.in-Some.value.now) c.in-Some-members_of.members.now c.in-Some.ensures.value c.in-Some-members_of.ensures c.pairs.ensures.rising))
    c.pairs.ensures.rising
