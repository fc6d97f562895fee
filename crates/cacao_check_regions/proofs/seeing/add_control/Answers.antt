use Rattle.std.proofs.Common.{◌∙◌, ap, inl, inr}
use Rattle.cacao_check_regions.specs.declared.seen.Sight.TheVariants.{Declared}
use Rattle.cacao_check_regions.proofs.seeing.add_control.Goals as goal

pub returns-clause-items : goal.returns-clause-items
returns-clause-items c sight = (
  λ h. elim ((c.in_ok-add_sight.ensures.items sight).0 h) [ inl old ↦ inl old | inr e ↦ inr (c.in-Some.var.now, (let k = c.in-Some.ensures in cc), c.has_marked.ensures.0 c.if-not-has_marked.false, e) ],
  λ h. (c.in_ok-add_sight.ensures.items sight).1 (elim h [ inl old ↦ inl old | inr s ↦ inr (s.3 ∙ ap Declared (let d = s.1 in let k = c.in-Some.ensures in cc)) ]),
)
