use Rattle.std.proofs.Common.{◌≡◌, ◌⊎◌, inl, inr, ℕ, List, Option, subst}
use Rattle.base_graphs.specs.Nests.{IsInside}
use Rattle.base_graphs.proofs.NestLemmas.{inside_both}
use Rattle.base_graphs.proofs.nests.Nests.encloses.Goals as goal

one_more : (inner : List (Option ℕ)) (place at next : ℕ) → (at ≡ place) ⊎ IsInside inner place at → IsInside inner at next → IsInside inner place next
one_more inner place at next (inl same) i = subst (λ p. IsInside inner p next) same i
one_more inner place at next (inr before) i = inside_both inner before i

pub returns-then-next-guard : goal.returns-then-next-guard
returns-then-next-guard c h = subst (IsInside c.args.self.now c.args.place) c.if-next-guard.true (one_more c.args.self.now c.args.place c.loop.at c.in-Some.next c.loop.invariant c.in-Some.ensures)

pub loop-preserved : goal.loop-preserved
loop-preserved c = inr (one_more c.args.self.now c.args.place c.loop.at c.in-Some.next c.loop.invariant c.in-Some.ensures)
