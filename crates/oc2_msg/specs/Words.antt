-- Promise: The words of arguments, and what they stand for.
use Rattle.std.specs.Prelude.{ℕ, List, [], ◌∷◌, Option, codes}
use Rattle.oc2_msg_targets.specs.Parts.{named}
use Rattle.oc2_msg.specs.declared.directions.Direction.{Direction}
use Rattle.oc2_msg.specs.declared.directions.Direction.TheVariants as direction
use Rattle.oc2_msg.specs.declared.drops.Drop3.{Drop3}
use Rattle.oc2_msg.specs.declared.drops.Drop3.TheVariants as drops

abbrev pub direction_word : Direction → List ℕ
direction_word direction.Both = codes "both"
direction_word direction.Ingress = codes "ingress"
direction_word direction.Egress = codes "egress"

abbrev pub direction_named : List ℕ → Option Direction
direction_named text =
    named ((codes "both", direction.Both) ∷ (codes "ingress", direction.Ingress) ∷ (codes "egress", direction.Egress) ∷ []) text

abbrev pub drop_word : Drop3 → List ℕ
drop_word drops.Silent = codes "none"
drop_word drops.Reject = codes "reject"
drop_word drops.FalseAck = codes "false_ack"

abbrev pub drop_named : List ℕ → Option Drop3
drop_named text =
    named ((codes "none", drops.Silent) ∷ (codes "reject", drops.Reject) ∷ (codes "false_ack", drops.FalseAck) ∷ []) text

-- the responses that a command may ask for; the filter always answers in full
abbrev pub requests : List (List ℕ)
requests = codes "none" ∷ codes "ack" ∷ codes "status" ∷ codes "complete" ∷ []
