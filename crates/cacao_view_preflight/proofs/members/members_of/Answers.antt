use Rattle.std.proofs.Common.{◌∙◌, sym, ap, [], Option}
use Rattle.std.specs.Option.{option_map_or}
use Rattle.serde_json.specs.Data.{Members}
use Rattle.cacao_book_shape.specs.Members.{members_in}
use Rattle.cacao_view_preflight.proofs.members.members_of.Goals as goal

pub returns-in-Some : goal.returns-in-Some
returns-in-Some c = sym c.pairs.ensures ∙ ap (λ (o : Option Members). option_map_or members_in o []) c.in-Some.ensures
