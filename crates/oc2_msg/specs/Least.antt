-- Promise: The least command object with a value: absent parts, `both` and `none` are not written.
use Rattle.std.specs.Prelude.{ℕ, List, [], ◌∷◌, Bool, Option, Some, None, option_map, codes, if◌then◌else◌}
use Rattle.serde_json.specs.Data.{Data, string}
use Rattle.cacao_text.specs.Canon.{canon}
use Rattle.oc2_msg_targets.specs.declared.actions.Action.{Action}
use Rattle.oc2_msg_targets.specs.declared.actions.Action.TheVariants as action
use Rattle.oc2_msg_targets.specs.declared.kinds.TargetKind.TheVariants as kind
use Rattle.oc2_msg_targets.specs.Parts.{object_of, one_member, part_of, whole_data}
use Rattle.oc2_msg_targets.specs.Words.{action_word, kind_word}
use Rattle.oc2_msg_targets.specs.Least.{flow_data, features_data}
use Rattle.oc2_msg.specs.declared.directions.Direction.{Direction}
use Rattle.oc2_msg.specs.declared.directions.Direction.TheVariants as direction
use Rattle.oc2_msg.specs.declared.drops.Drop3.{Drop3}
use Rattle.oc2_msg.specs.declared.drops.Drop3.TheVariants as drops
use Rattle.oc2_msg.specs.declared.commands.Command.{Command}
use Rattle.oc2_msg.specs.declared.commands.Command.TheVariants as command
use Rattle.oc2_msg.specs.Words.{direction_word, drop_word}

-- ---- arguments

abbrev pub direction_part : Direction → Option Data
direction_part direction.Both = None
direction_part direction.Ingress = Some (string (direction_word direction.Ingress))
direction_part direction.Egress = Some (string (direction_word direction.Egress))

abbrev pub drop_part : Drop3 → Option Data
drop_part drops.Silent = None
drop_part drops.Reject = Some (string (drop_word drops.Reject))
drop_part drops.FalseAck = Some (string (drop_word drops.FalseAck))

abbrev pub filter_part : Direction → Drop3 → Option ℕ → Option Data
filter_part towards drops insert = part_of (
    (codes "direction", direction_part towards) ∷ (codes "drop_process", drop_part drops)
    ∷ (codes "insert_rule", option_map whole_data insert) ∷ [])

abbrev pub args_with : Option Data → Option ℕ → Option ℕ → Option ℕ → Option Data
args_with slpf start stop duration = part_of (
    (codes "duration", option_map whole_data duration) ∷ (codes "slpf", slpf)
    ∷ (codes "start_time", option_map whole_data start) ∷ (codes "stop_time", option_map whole_data stop) ∷ [])

abbrev pub args_part : Direction → Drop3 → Option ℕ → Option ℕ → Option ℕ → Option ℕ → Option Data
args_part towards drops insert start stop duration =
    args_with (filter_part towards drops insert) start stop duration

-- ---- commands

abbrev pub message : Action → Option Data → Data → Data
message a args target = object_of (
    (codes "action", Some (string (action_word a))) ∷ (codes "args", args) ∷ (codes "target", Some target) ∷ [])

abbrev pub rule_action : Bool → Action
rule_action deny = if deny then action.Deny else action.Allow

abbrev pub command_data : Command → Data
command_data (command.Rule deny f towards drops insert start stop duration) =
    message (rule_action deny) (args_part towards drops insert start stop duration) (flow_data f)
command_data (command.Delete number) =
    message action.Delete None (one_member (kind_word kind.RuleNumber) (whole_data number))
command_data (command.Update name) =
    message action.Update None (one_member (kind_word kind.File) (one_member (codes "name") (string name)))
command_data (command.Query features) =
    message action.Query None (one_member (kind_word kind.Features) (features_data features))

-- the text of a command
abbrev pub command_text : Command → List ℕ
command_text c = canon (command_data c)
