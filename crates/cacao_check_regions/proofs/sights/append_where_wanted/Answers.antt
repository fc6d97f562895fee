use Rattle.std.proofs.Common.{inl, inr, Contains, subst, sym}
use Rattle.std.proofs.lemmas.List.Elements.{Contains-append_left, Contains-append_right, Contains-append_cases}
use Rattle.cacao_check_regions.proofs.sights.append_where_wanted.Goals as goal

pub returns-then-wanted : goal.returns-then-wanted
returns-then-wanted c p = (
  λ h. elim (Contains-append_cases c.args.these.now c.args.places.now p (subst (λ v. Contains v p) c.in_ok-append.ensures.ok h)) [ inl old ↦ inl old | inr new ↦ inr (c.if-wanted.true, new) ],
  λ h. subst (λ v. Contains v p) (sym c.in_ok-append.ensures.ok) (elim h [ inl old ↦ Contains-append_left c.args.these.now c.args.places.now p old | inr new ↦ Contains-append_right c.args.these.now c.args.places.now p new.1 ]),
)
