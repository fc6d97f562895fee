use Rattle.std.proofs.Common.{◌≡◌, ℕ, List, Option, Some, None, IfSome, false, refl, sym, ◌∙◌, ap, subst, arith}
use Rattle.std.specs.Prelude.{is_some}
use Rattle.base_graphs.specs.Nests.{inner_of, IsInside}
use Rattle.base_graphs.proofs.NestLemmas.{jumps_more}
use Rattle.base_graphs.proofs.nests.Nests.tell.Goals as goal

is_none : (found : Option ℕ) → false ≡ is_some found → found ≡ None
is_none None e = refl
is_none (Some x) e = absurd (cc)

pub invariant_of-self : goal.invariant_of-self
invariant_of-self c =
    let view : c.self.inside.inner.items ≡ c.args.self.now = c.self.view_is in
    let none : inner_of c.self.inside.inner.items c.args.place ≡ None = ap (λ (v : List (Option ℕ)). inner_of v c.args.place) view ∙ sym c.inner_at.ensures ∙ is_none c.inner_at.result c.if-is_some.ensures in
    jumps_more c.self.inside.inner.items c.args.place c.args.guard none c.self.inside.jumps.items c.jump_past.result c.unwrap_or-jump.result (omega arith) (omega arith)
    (subst (λ v. IfSome c.jump_past.result (λ outer. IsInside v c.args.guard outer)) (sym view) c.jump_past.ensures) c.unwrap_or-jump.ensures c.self.invariant
