use Rattle.std.proofs.Common.{◌∙◌}
use Rattle.oc2_msg_targets.proofs.PartLemmas.{has_only-pairs}
use Rattle.oc2_msg_targets.proofs.parts.has_only.Goals as goal

pub returns-in-Some : goal.returns-in-Some
returns-in-Some c = c.are_among.ensures ∙ has_only-pairs c.args.names.now _ c.in-Some.pairs.now c.in-Some.ensures
