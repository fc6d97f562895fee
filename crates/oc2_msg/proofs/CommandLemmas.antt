-- A command that is written is answered by itself.
use Rattle.std.proofs.Common.{◌≡◌, ℕ, Bool, true, false, not, List, [], ◌∷◌, codes, Option, Some, None, Result, Ok, refl, ap, ◌∙◌}
use Rattle.std.specs.Prelude.{option_and_then, is_some, is_none}
use Rattle.serde_json.specs.Data.{Data, string}
use Rattle.serde_json.specs.Find.{get}
use Rattle.oc2_msg_targets.specs.declared.actions.Action.{Action}
use Rattle.oc2_msg_targets.specs.declared.actions.Action.TheVariants as action
use Rattle.oc2_msg_targets.specs.declared.kinds.TargetKind.{TargetKind}
use Rattle.oc2_msg_targets.specs.declared.kinds.TargetKind.TheVariants as kind
use Rattle.oc2_msg_targets.specs.declared.targets.Target.{Target}
use Rattle.oc2_msg.specs.declared.arguments.Args.{Args}
use Rattle.oc2_msg.specs.declared.commands.Command.{Command}
use Rattle.oc2_msg.specs.declared.refusals.Refusal.{Refusal}
use Rattle.oc2_msg.specs.declared.reasons.Reason.TheVariants as reason
use Rattle.oc2_msg_targets.specs.Parts.{is_absent_or, is_object, single, has_only, one_member}
use Rattle.oc2_msg_targets.specs.Words.{action_word, action_named, kind_word, kind_named, takes, is_deny, adds_rule}
use Rattle.oc2_msg_targets.specs.Targets.{target_in}
use Rattle.oc2_msg.specs.Args.{args_in, is_unserved}
use Rattle.oc2_msg.specs.Commands.{is_command, target_part, action_of, kind_of, taken_by, target_of, args_of, has_unserved, refusal, first_row, command_with, answered, answer_to, command_parts}
use Rattle.oc2_msg.specs.Least.{message}
use Rattle.oc2_msg_targets.proofs.PresentLemmas.{Part, get_member-present, are_among-present}

-- ---- the answer, by what is read

abbrev found_rows : Bool → Option Action → Option TargetKind → Option Target → Option Args → List (Bool × Refusal)
found_rows is a k t args =
    (not is, refusal 400 reason.MalformedCommand) ∷ (is_none a, refusal 501 reason.UnsupportedAction)
    ∷ (is_none k, refusal 501 reason.UnsupportedPair) ∷ (is_none t, refusal 400 reason.MalformedTarget)
    ∷ (is_none args, refusal 400 reason.MalformedArgs) ∷ (has_unserved a args, refusal 501 reason.UnsupportedArgs) ∷ []

abbrev found_command : Option Action → Option Target → Option Args → Option Command
found_command a t args = option_and_then (λ x. option_and_then (λ y. option_and_then (λ z. Some (command_with x y z)) args) t) a

abbrev decide : Bool → Option Action → Option TargetKind → Option Target → Option Args → Result Command Refusal
decide is a k t args = answered (first_row (found_rows is a k t args)) (found_command a t args)

decided : (is : Bool) (a : Option Action) (k : Option TargetKind) (t : Option Target) (args : Option Args) (x : Action) (y : TargetKind) (z : Target) (w : Args) → is ≡ true → a ≡ Some x → k ≡ Some y → t ≡ Some z → args ≡ Some w → is_unserved (adds_rule x) w ≡ false → decide is a k t args ≡ Ok (command_with x z w)
decided is a k t args x y z w e₁ e₂ e₃ e₄ e₅ e₆ = rw (e₁, e₂, e₃, e₄, e₅, e₆) refl

pub answer_to-found : (d : Data) (x : Action) (y : TargetKind) (z : Target) (w : Args) → is_command d ≡ true → action_of d ≡ Some x → kind_of d ≡ Some y → target_of d ≡ Some z → args_of d ≡ Some w → is_unserved (adds_rule x) w ≡ false → answer_to d ≡ Ok (command_with x z w)
answer_to-found d x y z w e₁ e₂ e₃ e₄ e₅ e₆ = decided (is_command d) (action_of d) (kind_of d) (target_of d) (args_of d) x y z w e₁ e₂ e₃ e₄ e₅ e₆

-- ---- no row holds: there is a command

pub has_command : (is : Bool) (a : Option Action) (k : Option TargetKind) (t : Option Target) (args : Option Args) → first_row (found_rows is a k t args) ≡ None → is_some (found_command a t args) ≡ true
has_command false a k t args e = absurd (cc)
has_command true None k t args e = absurd (cc)
has_command true (Some x) None t args e = absurd (cc)
has_command true (Some x) (Some y) None args e = absurd (cc)
has_command true (Some x) (Some y) (Some z) None e = absurd (cc)
has_command true (Some x) (Some y) (Some z) (Some w) e = refl

-- ---- the least object

action_named-back : (a : Action) → action_named (action_word a) ≡ Some a
action_named-back action.Allow = refl
action_named-back action.Deny = refl
action_named-back action.Delete = refl
action_named-back action.Update = refl
action_named-back action.Query = refl

kind_named-back : (k : TargetKind) → kind_named (kind_word k) ≡ Some k
kind_named-back kind.Ipv4Net = refl
kind_named-back kind.Ipv6Net = refl
kind_named-back kind.Ipv4Connection = refl
kind_named-back kind.Ipv6Connection = refl
kind_named-back kind.RuleNumber = refl
kind_named-back kind.File = refl
kind_named-back kind.Features = refl

abbrev message_parts : Action → Option Data → Data → List Part
message_parts a args t = (codes "action", Some (string (action_word a))) ∷ (codes "args", args) ∷ (codes "target", Some t) ∷ []

-- an object with these parts, and no other
record HasParts (d : Data) (a : Action) (args : Option Data) (k : TargetKind) (v : Data) : Type 0 where
  pub only : has_only command_parts d ≡ true
  pub action : get (codes "action") d ≡ Some (string (action_word a))
  pub target : get (codes "target") d ≡ Some (one_member (kind_word k) v)
  pub arguments : get (codes "args") d ≡ args
  pub actuator : get (codes "actuator") d ≡ None
  pub command_id : get (codes "command_id") d ≡ None

has_parts : (a : Action) (args : Option Data) (k : TargetKind) (v : Data) → HasParts (message a args (one_member (kind_word k) v)) a args k v
has_parts a args k v =
    let parts = message_parts a args (one_member (kind_word k) v) in
    record {
      only = are_among-present command_parts parts refl;
      action = get_member-present (codes "action") parts;
      target = get_member-present (codes "target") parts;
      arguments = get_member-present (codes "args") parts;
      actuator = get_member-present (codes "actuator") parts;
      command_id = get_member-present (codes "command_id") parts;
    }

is_command-parts : (d : Data) (a : Action) (args : Option Data) (k : TargetKind) (v : Data) → HasParts d a args k v → is_absent_or is_object args ≡ true → is_command d ≡ true
is_command-parts d a args k v h ok = rw (h.only, h.action, h.target, h.arguments, h.actuator, h.command_id, ok) refl

action_of-parts : (d : Data) (a : Action) (args : Option Data) (k : TargetKind) (v : Data) → HasParts d a args k v → action_of d ≡ Some a
action_of-parts d a args k v h = rw h.action (action_named-back a)

target_part-parts : (d : Data) (a : Action) (args : Option Data) (k : TargetKind) (v : Data) → HasParts d a args k v → target_part d ≡ Some (kind_word k, v)
target_part-parts d a args k v h = ap (option_and_then single) h.target

kind_found : (oa : Option Action) (ot : Option (List ℕ × Data)) (a : Action) (k : TargetKind) (v : Data) → oa ≡ Some a → ot ≡ Some (kind_word k, v) → takes a k ≡ true → option_and_then (λ x. option_and_then (λ t. option_and_then (taken_by x) (kind_named t.0)) ot) oa ≡ Some k
kind_found oa ot a k v is at fits = rw (is, at, kind_named-back k, fits) refl

kind_of-parts : (d : Data) (a : Action) (args : Option Data) (k : TargetKind) (v : Data) → HasParts d a args k v → takes a k ≡ true → kind_of d ≡ Some k
kind_of-parts d a args k v h fits = kind_found (action_of d) (target_part d) a k v (action_of-parts d a args k v h) (target_part-parts d a args k v h) fits

target_found : (ok : Option TargetKind) (ot : Option (List ℕ × Data)) (k : TargetKind) (v : Data) → ok ≡ Some k → ot ≡ Some (kind_word k, v) → option_and_then (λ x. option_and_then (λ t. target_in x t.1) ot) ok ≡ target_in k v
target_found ok ot k v is at = rw (is, at) refl

args_found : (oa : Option Action) (o : Option Data) (a : Action) (args : Option Data) → oa ≡ Some a → o ≡ args → option_and_then (λ x. args_in (is_deny x) o) oa ≡ args_in (is_deny a) args
args_found oa o a args is at = rw (is, at) refl

answer_to-parts : (d : Data) (a : Action) (k : TargetKind) (v : Data) (t : Target) (args : Option Data) (w : Args) → HasParts d a args k v → takes a k ≡ true → target_in k v ≡ Some t → is_absent_or is_object args ≡ true → args_in (is_deny a) args ≡ Some w → is_unserved (adds_rule a) w ≡ false → answer_to d ≡ Ok (command_with a t w)
answer_to-parts d a k v t args w h fits read ok values served =
    let kinds = kind_of-parts d a args k v h fits in
    answer_to-found d a k t w (is_command-parts d a args k v h ok) (action_of-parts d a args k v h) kinds
    (target_found (kind_of d) (target_part d) k v kinds (target_part-parts d a args k v h) ∙ read)
    (args_found (action_of d) (get (codes "args") d) a args (action_of-parts d a args k v h) h.arguments ∙ values) served

pub answer_to-message : (a : Action) (k : TargetKind) (v : Data) (t : Target) (args : Option Data) (w : Args) → takes a k ≡ true → target_in k v ≡ Some t → is_absent_or is_object args ≡ true → args_in (is_deny a) args ≡ Some w → is_unserved (adds_rule a) w ≡ false → answer_to (message a args (one_member (kind_word k) v)) ≡ Ok (command_with a t w)
answer_to-message a k v t args w fits read ok values served =
    answer_to-parts (message a args (one_member (kind_word k) v)) a k v t args w (has_parts a args k v) fits read ok values served
