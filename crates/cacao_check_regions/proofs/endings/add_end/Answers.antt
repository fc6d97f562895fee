use Rattle.std.proofs.Common.{inl, inr, ◌∷◌, [], Contains, subst, sym}
use Rattle.std.proofs.lemmas.List.Elements.{Contains-append_left, Contains-push, Contains-push_cases}
use Rattle.cacao_check_regions.proofs.endings.add_end.Goals as goal

pub returns-then-can_end : goal.returns-then-can_end
returns-then-can_end c p = (
  λ h. elim (Contains-push_cases c.args.places.now c.args.place p (subst (λ v. Contains v p) c.in_ok-push.ensures.ok h)) [ inl old ↦ inl old | inr new ↦ inr (new, c.can_end.ensures.0 c.if-can_end.true) ],
  λ h. subst (λ v. Contains v p) (sym c.in_ok-push.ensures.ok) (elim h [ inl old ↦ Contains-append_left c.args.places.now (c.args.place ∷ []) p old | inr new ↦ subst (Contains _) new.0 (Contains-push c.args.places.now c.args.place) ]),
)
