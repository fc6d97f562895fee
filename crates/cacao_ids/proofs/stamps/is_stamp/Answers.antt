-- The parts stand at fixed places, but for the fraction's end.
use Rattle.std.proofs.Common.{refl}
use Rattle.cacao_ids.proofs.StampLemmas.{stamp_from, stamp_fraction}
use Rattle.cacao_ids.proofs.stamps.is_stamp.Goals as goal

pub returns : goal.returns
returns c = (
  λ t. stamp_from c.args.text.now c.if-len-lt20.false c.if-text-ne84.false c.if-text-len-ne90.false (c.if-not-is_date.ensures.0 refl) (c.if-not-is_time.ensures.0 refl) (c.is_fraction.ensures.0 t),
  λ s. c.is_fraction.ensures.1 (stamp_fraction c.args.text.now s),
)
