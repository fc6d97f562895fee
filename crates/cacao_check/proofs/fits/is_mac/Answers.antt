use Rattle.std.proofs.Common.{sym, ◌∙◌, below_more}
use Rattle.cacao_check.proofs.fits.is_mac.Goals as goal

pub loop-place-preserved : goal.loop-place-preserved
loop-place-preserved c = below_more _ _ c.loop-place.invariant (sym c.may_stand_in_mac.ensures ∙ c.if-not-may_stand_in_mac.false)
