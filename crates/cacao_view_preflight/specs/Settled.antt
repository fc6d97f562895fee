-- Promise: Which commands filters refuse whatever the values are of the variables that they refer to, and what is sure of the answer.
-- A text with a reference is open: it may become any text, or a number. Each open text that stands for a part of a command is set to
-- one that fits; a command that is refused even so is refused always. The reason is then sure, unless an open text stands where an
-- earlier row of the table of refusals may find fault with it.
use Rattle.std.specs.Prelude.{ℕ, nat_le, Bool, false, ◌||◌, List, [], ◌∷◌, length, codes, Option, Some, None, option_map, option_and_then, is_some, Result, Ok, Err, if◌then◌else◌}
use Rattle.std.specs.List.{list_any}
use Rattle.std.specs.Option.{option_map_or}
use Rattle.serde_json.specs.Data.{Data, string, array, object, Items, no_items, item, Members, put}
use Rattle.serde_json.specs.Find.{as_str, as_array, as_object, get, get_member}
use Rattle.cacao_json.specs.Tree.{without}
use Rattle.cacao_text.specs.Canon.{canon}
use Rattle.cacao_vars.specs.References.{first_reference}
use Rattle.oc2_msg_targets.specs.declared.actions.Action.{Action}
use Rattle.oc2_msg_targets.specs.declared.actions.Action.TheVariants as action
use Rattle.oc2_msg_targets.specs.declared.kinds.TargetKind.{TargetKind}
use Rattle.oc2_msg_targets.specs.declared.kinds.TargetKind.TheVariants as kind
use Rattle.oc2_msg_targets.specs.Parts.{whole_data, one_member, single}
use Rattle.oc2_msg_targets.specs.Words.{action_word, kind_named}
use Rattle.oc2_msg_targets.specs.Targets.{connection_parts}
use Rattle.oc2_msg.specs.Commands.{answer_of, target_part}
use Rattle.oc2_msg.specs.declared.commands.Command.{Command}
use Rattle.oc2_msg.specs.declared.refusals.Refusal.{Refusal}
use Rattle.oc2_msg.specs.declared.reasons.Reason.{Reason}
use Rattle.oc2_msg.specs.declared.reasons.Reason.TheVariants as reason
use Rattle.cacao_view_preflight.specs.declared.sure.Sure.{Sure}
use Rattle.cacao_view_preflight.specs.declared.sure.Sure.TheVariants as sure

-- ---- what is open

abbrev pub has_reference : List ℕ → Bool
has_reference text = is_some (first_reference text)

abbrev pub is_open : Data → Bool
is_open d = option_map_or has_reference (as_str d) false

abbrev pub is_open_at : List ℕ → Data → Bool
is_open_at name d = option_map_or is_open (get name d) false

-- one of the members with these names is open
abbrev pub are_open_at : List (List ℕ) → Data → Bool
are_open_at names d = list_any (λ name. is_open_at name d) names

abbrev pub has_open : Items → Bool
has_open no_items = false
has_open (item d ds) = is_open d || has_open ds

-- the items that are not open
abbrev pub closed_items : Items → Items
closed_items no_items = no_items
closed_items (item d ds) = if is_open d then closed_items ds else item d (closed_items ds)

-- ---- members that are changed

-- the member with this name is changed, if it is there
abbrev pub changed : List ℕ → (Data → Data) → Members → Members
changed name change ms = option_map_or (λ d. put name (change d) (without name ms)) (get_member name ms) (without name ms)

abbrev pub set_if_open : Data → Data → Data
set_if_open fitting d = if is_open d then fitting else d

-- the member with this name is set to what fits, if it is open
abbrev pub settled : List ℕ → Data → Members → Members
settled name fitting = changed name (set_if_open fitting)

-- the members of an object are changed; another value stays
abbrev pub in_object : (Members → Members) → Data → Data
in_object change d = option_map_or (λ ms. object (change ms)) (as_object d) d

-- so are the items of a list
abbrev pub in_array : (Items → Items) → Data → Data
in_array change d = option_map_or (λ ds. array (change ds)) (as_array d) d

-- ---- the target

abbrev pub connection_members : List ℕ → Members → Members
connection_members net ms =
    settled (codes "dst_port") (whole_data 0) (settled (codes "src_port") (whole_data 0)
    (settled (codes "dst_addr") (string net) (settled (codes "src_addr") (string net)
    (settled (codes "protocol") (string (codes "tcp")) ms))))

-- the value of a target of each kind; a file's name may be any text
abbrev pub value_settled : TargetKind → Data → Data
value_settled kind.Ipv4Net d = set_if_open (string (codes "0.0.0.0")) d
value_settled kind.Ipv6Net d = set_if_open (string (codes "::")) d
value_settled kind.Ipv4Connection d = in_object (connection_members (codes "0.0.0.0")) d
value_settled kind.Ipv6Connection d = in_object (connection_members (codes "::")) d
value_settled kind.RuleNumber d = set_if_open (whole_data 1) d
value_settled kind.File d = d
value_settled kind.Features d = in_array closed_items d

-- an open text stands where the value is looked at
abbrev pub opens_value : TargetKind → Data → Bool
opens_value kind.Ipv4Net d = is_open d
opens_value kind.Ipv6Net d = is_open d
opens_value kind.Ipv4Connection d = are_open_at connection_parts d
opens_value kind.Ipv6Connection d = are_open_at connection_parts d
opens_value kind.RuleNumber d = is_open d
opens_value kind.File d = is_open_at (codes "name") d
opens_value kind.Features d = option_map_or has_open (as_array d) false

abbrev pub named_settled : List ℕ → Data → Data
named_settled name d = option_map_or (λ k. value_settled k d) (kind_named name) d

abbrev pub target_settled : Data → Data
target_settled d = option_map_or (λ m. one_member m.0 (named_settled m.0 m.1)) (single d) d

abbrev pub opens_named : List ℕ → Data → Bool
opens_named name d = option_map_or (λ k. opens_value k d) (kind_named name) false

abbrev pub opens_target : Data → Bool
opens_target d = option_map_or (λ m. opens_named m.0 m.1) (target_part d) false

-- ---- the arguments; the engine itself asks for a complete response

abbrev pub slpf_members : Members → Members
slpf_members ms =
    settled (codes "insert_rule") (whole_data 1) (settled (codes "direction") (string (codes "both"))
    (settled (codes "drop_process") (string (codes "none")) ms))

abbrev pub args_members : Members → Members
args_members ms =
    changed (codes "slpf") (in_object slpf_members)
    (settled (codes "stop_time") (whole_data 9_007_199_254_740_991) (settled (codes "duration") (whole_data 0)
    (settled (codes "start_time") (whole_data 0) (without (codes "response_requested") ms))))

abbrev pub opens_slpf : Data → Bool
opens_slpf d = are_open_at (codes "drop_process" ∷ codes "direction" ∷ codes "insert_rule" ∷ []) d

abbrev pub opens_times : Data → Bool
opens_times d = are_open_at (codes "start_time" ∷ codes "stop_time" ∷ codes "duration" ∷ []) d

abbrev pub opens_values : Data → Bool
opens_values d = opens_times d || option_map_or opens_slpf (get (codes "slpf") d) false

abbrev pub opens_args : Data → Bool
opens_args d = option_map_or opens_values (get (codes "args") d) false

-- ---- the command; the engine itself gives it its identifier

-- an action that takes targets of a kind: of those that do, the one that takes the most arguments
abbrev pub action_for : TargetKind → Action
action_for kind.RuleNumber = action.Delete
action_for kind.File = action.Update
action_for kind.Features = action.Query
action_for other = action.Deny

abbrev pub fitting_action : Data → Action
fitting_action d = option_map_or action_for (option_and_then (λ m. kind_named m.0) (target_part d)) action.Deny

abbrev pub command_members : Action → Members → Members
command_members fitting ms =
    changed (codes "args") (in_object args_members) (changed (codes "target") target_settled
    (settled (codes "action") (string (action_word fitting)) (without (codes "command_id") ms)))

abbrev pub command_settled : Data → Data
command_settled d = in_object (command_members (fitting_action d)) d

-- ---- what is refused

abbrev pub error_of : Result Command Refusal → Option Refusal
error_of (Ok command) = None
error_of (Err refusal) = Some refusal

-- the refusal of the bytes of a command, if they are short enough to be sent
abbrev pub refusal_of : List ℕ → Option Refusal
refusal_of bytes = if nat_le (length bytes) 1048576 then error_of (answer_of bytes) else None

-- What is sure where the command is refused for this reason at best: where its action is open, it may be no command or of another
-- action; where its target is open, that may be malformed; and so may its arguments.
abbrev pub sure_for : Bool → Bool → Bool → Reason → Refusal → Sure
sure_for command target args reason.MalformedCommand refusal = sure.Answer refusal
sure_for command target args reason.MalformedArgs refusal =
    if command then sure.Refused else (if target then sure.Malformed else sure.Answer refusal)
sure_for command target args reason.UnsupportedArgs refusal =
    if command then sure.Refused else (if target || args then sure.Refused else sure.Answer refusal)
sure_for command target args other refusal = if command then sure.Refused else sure.Answer refusal

abbrev pub sure_by : Data → Refusal → Sure
sure_by d refusal = sure_for (is_open_at (codes "action") d) (opens_target d) (opens_args d) refusal.text refusal

abbrev pub refused_always : Data → Option Sure
refused_always d = option_map (sure_by d) (refusal_of (canon (command_settled d)))
