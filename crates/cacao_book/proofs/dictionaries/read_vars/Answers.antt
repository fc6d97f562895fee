use Rattle.std.proofs.Common.{sym, subst, arith, map}
use Rattle.std.specs.Prelude.{All}
use Rattle.serde_json.specs.Find.{get}
use Rattle.cacao_json.specs.Tree.{data_of, pair_data}
use Rattle.cacao_vars.specs.Names.{IsName}
use Rattle.cacao_vars.specs.Declarations.{IsInNameOrder}
use Rattle.cacao_book_shape.specs.Orders.{IsRising}
use Rattle.cacao_book_shape.specs.Shape.{IsDeclaration}
use Rattle.cacao_book.specs.Books.{var_of}
use Rattle.cacao_book_shape.proofs.ListLemmas.{fits_at, members_fit, made_all}
use Rattle.cacao_book.proofs.OrderLemmas.{vars_in_order}
use Rattle.cacao_book.proofs.dictionaries.read_vars.Goals as goal

pub read_var-requires : goal.read_var-requires
read_var-requires c =
    (fits_at pair_data (λ m. IsName m.0 × IsDeclaration m.1) c.members_at-pair-items.result.now c.loop-pair.pair-index c.pair-item.result c.loop-pair-test.true c.pair-item.is
    (subst (All (λ m. IsName m.0 × IsDeclaration m.1)) (sym c.members_at-pair-items.ensures.members)
    (members_fit (λ m. IsName m.0 × IsDeclaration m.1) 0 1024 (get c.args.name.now (data_of c.args.tree.now)) c.requires))).0

pub from_vec-requires : goal.from_vec-requires
from_vec-requires c =
    subst IsInNameOrder (sym (made_all pair_data var_of c.members_at-pair-items.result.now c.loop-pair.pair-index c.loop-pair.vars.items (omega arith) c.loop-pair.invariant))
    (vars_in_order (map pair_data c.members_at-pair-items.result.now) (subst IsRising (sym c.members_at-pair-items.ensures.members) c.members_at-pair-items.ensures.rising))
