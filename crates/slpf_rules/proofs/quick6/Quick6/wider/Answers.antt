use Rattle.std.proofs.Common.{inl, inr, ◌∙◌}
use Rattle.slpf_rules.proofs.quick6.Quick6.wider.Goals as goal

pub loop-at-preserved : goal.loop-at-preserved
loop-at-preserved c = (
  λ slot reads. elim (c.hand_on.ensures.added slot reads) [ inl before ↦ c.loop-at.invariant.0 slot before | inr own ↦ own ],
  c.hand_on.ensures.since ∙ c.loop-at.invariant.1,
)
