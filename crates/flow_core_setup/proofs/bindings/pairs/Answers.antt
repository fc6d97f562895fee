use Rattle.std.proofs.Common.{map, sym, ap, ◌∙◌}
use Rattle.cacao_json.specs.Tree.{pair_data}
use Rattle.cacao_book_shape.specs.Members.{members_in}
use Rattle.cacao_book_shape.proofs.ListLemmas.{members_in-members_of, IsRising-sorted}
use Rattle.flow_core_setup.proofs.bindings.pairs.Goals as goal

pub returns-clause-members : goal.returns-clause-members
returns-clause-members c = ap members_in (sym c.as_slice.ensures.value) ∙ members_in-members_of (map pair_data c.as_slice.result.now)

pub returns-clause-rising : goal.returns-clause-rising
returns-clause-rising c = IsRising-sorted c.args.members.now c.as_slice.ensures.sorted
