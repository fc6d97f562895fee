use Rattle.std.proofs.Common.{◌∙◌, ap, sym, subst, inl, inr, ℕ, List}
use Rattle.std.proofs.lemmas.Bool.{false≢true}
use Rattle.cacao_check_regions.specs.Seeing.{HasMarked, sight_of}
use Rattle.cacao_check_regions.proofs.seeing.seen_from.Goals as goal

pub returns-then-not-has_marked-clause-items : goal.returns-then-not-has_marked-clause-items
returns-then-not-has_marked-clause-items c sight = (
  λ h. inl ((c.in_ok-items.ensures.items sight).0 h),
  λ h. elim h [
    | inl s ↦ (c.in_ok-items.ensures.items sight).1 s
    | inr s ↦ absurd (false≢true (sym c.if-not-has_marked.true ∙ c.has_marked.ensures.1 (subst (λ (v : List ℕ). HasMarked v c.args.marks.now) (sym (c.as_slice.ensures ∙ c.requires.starts_are)) s.0)))
  ],
)

pub returns-clause-items : goal.returns-clause-items
returns-clause-items c sight = (
  λ h. elim ((c.in_ok-add_sight.ensures.items sight).0 h) [
    | inl old ↦ inl ((c.in_ok-items.ensures.items sight).0 old)
    | inr e ↦ inr (subst (λ (v : List ℕ). HasMarked v c.args.marks.now) (c.as_slice.ensures ∙ c.requires.starts_are) (c.has_marked.ensures.0 c.if-not-has_marked.false), e ∙ ap sight_of c.find.ensures)
  ],
  λ h. (c.in_ok-add_sight.ensures.items sight).1 (elim h [ inl s ↦ inl ((c.in_ok-items.ensures.items sight).1 s) | inr s ↦ inr (s.1 ∙ ap sight_of (sym c.find.ensures)) ]),
)
