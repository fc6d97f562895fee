use Rattle.std.proofs.Common.{sym, ◌∙◌}
use Rattle.oc2_msg_targets.proofs.PutLemmas.{unless_empty-some}
use Rattle.oc2_msg_targets.proofs.building.unless_empty.Goals as goal

pub returns-else-is_empty : goal.returns-else-is_empty
returns-else-is_empty c =
    unless_empty-some c.args.pairs c.as_slice.result.now c.as_slice.ensures.value (sym c.is_empty.ensures ∙ c.if-is_empty.false)
