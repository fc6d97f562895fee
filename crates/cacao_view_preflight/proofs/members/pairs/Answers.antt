use Rattle.std.proofs.Common.{map, sym, ap, ◌∙◌}
use Rattle.cacao_json.specs.Tree.{pair_data}
use Rattle.cacao_book_shape.specs.Members.{members_in}
use Rattle.cacao_book_shape.proofs.ListLemmas.{members_in-members_of}
use Rattle.cacao_view_preflight.proofs.members.pairs.Goals as goal

pub returns : goal.returns
returns c = ap members_in (sym c.as_slice.ensures.value) ∙ members_in-members_of (map pair_data c.as_slice.result.now)
