use Rattle.std.proofs.Common.{◌≡◌, ℕ, List, Option, Some, None, IfSome, sym}
use Rattle.base_graphs.specs.Nests.{inner_of, IsInside}
use Rattle.base_graphs.specs.Nests.IsInside.{nearest}
use Rattle.base_graphs.proofs.nests.Nests.outward.Goals as goal

one : (inner : List (Option ℕ)) (place : ℕ) (found : Option ℕ) → found ≡ inner_of inner place → IfSome found (λ guard. IsInside inner place guard)
one inner place None e = tt
one inner place (Some guard) e = nearest (sym e)

pub returns : goal.returns
returns c = one c.args.self.now c.args.place c.inner_at.result c.inner_at.ensures
