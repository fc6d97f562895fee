-- Words of arguments that are written and read.
use Rattle.std.proofs.Common.{◌≡◌, ◌≤◌, Bool, true, false, codes, Option, Some, None, refl, arith}
use Rattle.std.specs.Prelude.{unwrap_or}
use Rattle.serde_json.specs.Data.{depth}
use Rattle.cacao_json.specs.Profile.{IsFormed}
use Rattle.oc2_msg_targets.specs.Parts.{optional}
use Rattle.oc2_msg_targets.specs.Ranges.{Each}
use Rattle.oc2_msg_targets.proofs.ValueLemmas.{IsUtf8-word}
use Rattle.oc2_msg.specs.declared.directions.Direction.{Direction}
use Rattle.oc2_msg.specs.declared.directions.Direction.TheVariants as direction
use Rattle.oc2_msg.specs.declared.drops.Drop3.{Drop3}
use Rattle.oc2_msg.specs.declared.drops.Drop3.TheVariants as drops
use Rattle.oc2_msg.specs.Args.{direction_in, drop_in}
use Rattle.oc2_msg.specs.Ranges.{MayDrop}
use Rattle.oc2_msg.specs.Least.{direction_part, drop_part}

abbrev pub direction_read : Direction → Option Direction
direction_read direction.Both = None
direction_read direction.Ingress = Some direction.Ingress
direction_read direction.Egress = Some direction.Egress

pub optional_direction-back : (d : Direction) → optional direction_in (direction_part d) ≡ Some (direction_read d)
optional_direction-back direction.Both = refl
optional_direction-back direction.Ingress = refl
optional_direction-back direction.Egress = refl

pub direction_read-back : (d : Direction) → unwrap_or (direction_read d) direction.Both ≡ d
direction_read-back direction.Both = refl
direction_read-back direction.Ingress = refl
direction_read-back direction.Egress = refl

abbrev pub drop_read : Drop3 → Option Drop3
drop_read drops.Silent = None
drop_read drops.Reject = Some drops.Reject
drop_read drops.FalseAck = Some drops.FalseAck

pub optional_drop-back : (denies : Bool) (d : Drop3) → MayDrop denies d → optional (drop_in denies) (drop_part d) ≡ Some (drop_read d)
optional_drop-back true drops.Silent h = refl
optional_drop-back true drops.Reject h = refl
optional_drop-back true drops.FalseAck h = refl
optional_drop-back false drops.Silent h = refl
optional_drop-back false drops.Reject h = absurd (cc)
optional_drop-back false drops.FalseAck h = absurd (cc)

pub drop_read-back : (d : Drop3) → unwrap_or (drop_read d) drops.Silent ≡ d
drop_read-back drops.Silent = refl
drop_read-back drops.Reject = refl
drop_read-back drops.FalseAck = refl

pub Each-direction_part : (d : Direction) → Each IsFormed (direction_part d) × Each (λ e. depth e ≤ 0) (direction_part d)
Each-direction_part direction.Both = (tt, tt)
Each-direction_part direction.Ingress = (IsUtf8-word (codes "ingress") refl, omega arith)
Each-direction_part direction.Egress = (IsUtf8-word (codes "egress") refl, omega arith)

pub Each-drop_part : (d : Drop3) → Each IsFormed (drop_part d) × Each (λ e. depth e ≤ 0) (drop_part d)
Each-drop_part drops.Silent = (tt, tt)
Each-drop_part drops.Reject = (IsUtf8-word (codes "reject") refl, omega arith)
Each-drop_part drops.FalseAck = (IsUtf8-word (codes "false_ack") refl, omega arith)
