-- Promise: Commands: which bytes are refused, and what the others ask for.
use Rattle.std.specs.Prelude.{ℕ, List, [], ◌∷◌, length, Bool, false, not, ◌&&◌, nat_le, Option, Some, None, option_and_then, unwrap_or, is_some, is_none, Result, Err, codes, if◌then◌else◌}
use Rattle.std.specs.Option.{ok_or, option_map_or}
use Rattle.std.specs.List.{list_any}
use Rattle.std.specs.Char.{is_whitespace}
use Rattle.std.specs.Str.{chars}
use Rattle.serde_json.specs.Data.{Data, null}
use Rattle.serde_json.specs.Find.{get, as_str}
use Rattle.cacao_json.specs.Reading.{tree}
use Rattle.oc2_msg_targets.specs.declared.actions.Action.{Action}
use Rattle.oc2_msg_targets.specs.declared.kinds.TargetKind.{TargetKind}
use Rattle.oc2_msg_targets.specs.declared.targets.Target.{Target}
use Rattle.oc2_msg_targets.specs.declared.targets.Target.TheVariants as target
use Rattle.oc2_msg.specs.declared.arguments.Args.{Args}
use Rattle.oc2_msg.specs.declared.directions.Direction.TheVariants.{Both}
use Rattle.oc2_msg.specs.declared.drops.Drop3.TheVariants.{Silent}
use Rattle.oc2_msg.specs.declared.commands.Command.{Command}
use Rattle.oc2_msg.specs.declared.commands.Command.TheVariants as command
use Rattle.oc2_msg.specs.declared.refusals.Refusal.{Refusal}
use Rattle.oc2_msg.specs.declared.reasons.Reason.{Reason}
use Rattle.oc2_msg.specs.declared.reasons.Reason.TheVariants as reason
use Rattle.oc2_msg_targets.specs.Parts.{◌>>=◌, has_only, single, is_object, is_absent_or}
use Rattle.oc2_msg_targets.specs.Words.{action_named, kind_named, takes, is_deny, adds_rule}
use Rattle.oc2_msg_targets.specs.Targets.{target_in}
use Rattle.oc2_msg.specs.Args.{args_in, is_unserved}

-- ---- the parts of a command

abbrev pub command_parts : List (List ℕ)
command_parts = codes "action" ∷ codes "actuator" ∷ codes "args" ∷ codes "command_id" ∷ codes "target" ∷ []

-- at most 36 characters, none of them white space
abbrev pub is_identifier : List ℕ → Bool
is_identifier text = nat_le (length (chars text)) 36 && not (list_any is_whitespace (chars text))

abbrev pub is_command_id : Data → Bool
is_command_id d = option_map_or is_identifier (as_str d) false

abbrev pub action_text : Data → Option (List ℕ)
action_text d = option_and_then as_str (get (codes "action") d)

-- the target's one member: its name, and its value
abbrev pub target_part : Data → Option (List ℕ × Data)
target_part d = option_and_then single (get (codes "target") d)

abbrev pub is_command : Data → Bool
is_command d =
    has_only command_parts d && is_some (action_text d) && is_some (target_part d)
    && is_absent_or is_object (get (codes "args") d) && is_absent_or is_object (get (codes "actuator") d)
    && is_absent_or is_command_id (get (codes "command_id") d)

abbrev pub action_of : Data → Option Action
action_of d = option_and_then action_named (action_text d)

abbrev pub taken_by : Action → TargetKind → Option TargetKind
taken_by a k = if takes a k then Some k else None

-- the kind of the target, if the action takes it
abbrev pub kind_of : Data → Option TargetKind
kind_of d = do
  a ← action_of d
  t ← target_part d
  k ← kind_named t.0
  taken_by a k

abbrev pub target_of : Data → Option Target
target_of d = do
  k ← kind_of d
  t ← target_part d
  target_in k t.1

abbrev pub args_of : Data → Option Args
args_of d = do
  a ← action_of d
  args_in (is_deny a) (get (codes "args") d)

-- ---- the table of refusals: six rows, each with its status, its text, and where it holds

abbrev pub is_malformed_command : Data → Bool
is_malformed_command d = not (is_command d)

abbrev pub is_unsupported_action : Data → Bool
is_unsupported_action d = is_none (action_of d)

abbrev pub is_unsupported_pair : Data → Bool
is_unsupported_pair d = is_none (kind_of d)

abbrev pub is_malformed_target : Data → Bool
is_malformed_target d = is_none (target_of d)

abbrev pub is_malformed_args : Data → Bool
is_malformed_args d = is_none (args_of d)

abbrev pub has_unserved : Option Action → Option Args → Bool
has_unserved (Some a) (Some args) = is_unserved (adds_rule a) args
has_unserved a args = false

abbrev pub has_unsupported_args : Data → Bool
has_unsupported_args d = has_unserved (action_of d) (args_of d)

abbrev pub refusal : ℕ → Reason → Refusal
refusal status text = record { status = status; text = text }

abbrev pub rows : Data → List (Bool × Refusal)
rows d =
    (is_malformed_command d, refusal 400 reason.MalformedCommand)
    ∷ (is_unsupported_action d, refusal 501 reason.UnsupportedAction)
    ∷ (is_unsupported_pair d, refusal 501 reason.UnsupportedPair)
    ∷ (is_malformed_target d, refusal 400 reason.MalformedTarget)
    ∷ (is_malformed_args d, refusal 400 reason.MalformedArgs)
    ∷ (has_unsupported_args d, refusal 501 reason.UnsupportedArgs) ∷ []

-- the first row that holds decides
abbrev pub first_row : List (Bool × Refusal) → Option Refusal
first_row [] = None
first_row (row ∷ others) = if row.0 then Some row.1 else first_row others

-- ---- the command, where no row holds

abbrev pub command_with : Action → Target → Args → Command
command_with a (target.Flow f) args =
    command.Rule (is_deny a) f (unwrap_or args.slpf.direction Both) (unwrap_or args.slpf.drop_process Silent)
    args.slpf.insert_rule args.start_time args.stop_time args.duration
command_with a (target.RuleNumber number) args = command.Delete number
command_with a (target.File name) args = command.Update name
command_with a (target.Features features) args = command.Query features

abbrev pub command_of : Data → Option Command
command_of d = do
  a ← action_of d
  t ← target_of d
  args ← args_of d
  Some (command_with a t args)

-- (where no row holds, there is a command)
abbrev pub answered : Option Refusal → Option Command → Result Command Refusal
answered (Some refused) found = Err refused
answered None found = ok_or found (refusal 400 reason.MalformedCommand)

abbrev pub answer_to : Data → Result Command Refusal
answer_to d = answered (first_row (rows d)) (command_of d)

-- the answer to the bytes of a command; bytes that have no tree are no object, as `null` is none
abbrev pub answer_of : List ℕ → Result Command Refusal
answer_of bytes = answer_to (unwrap_or (tree bytes) null)
