-- Commands read back.
use Rattle.std.proofs.Common.{◌≡◌, ◌≤◌, ℕ, Bool, true, false, List, [], ◌∷◌, map, codes, Option, Some, None, option_map, Ok, refl, ap, ◌∙◌, arith}
use Rattle.std.specs.Prelude.{unwrap_or}
use Rattle.serde_json.specs.Data.{Data, null, string, depth}
use Rattle.cacao_json.specs.Profile.{IsFormed, IsTree}
use Rattle.cacao_text.proofs.LawLemmas.{tree-canon}
use Rattle.oc2_nets.specs.declared.flows.Flow.{Flow}
use Rattle.oc2_nets.specs.declared.flows.Flow.TheVariants as flow
use Rattle.oc2_nets.proofs.RoundTrips.{net4_back, net6_back}
use Rattle.oc2_msg_targets.specs.declared.actions.Action.{Action}
use Rattle.oc2_msg_targets.specs.declared.actions.Action.TheVariants as action
use Rattle.oc2_msg_targets.specs.declared.kinds.TargetKind.{TargetKind}
use Rattle.oc2_msg_targets.specs.declared.kinds.TargetKind.TheVariants as kind
use Rattle.oc2_msg_targets.specs.declared.targets.Target.TheVariants as target
use Rattle.oc2_msg.specs.declared.directions.Direction.{Direction}
use Rattle.oc2_msg.specs.declared.drops.Drop3.{Drop3}
use Rattle.oc2_msg_targets.specs.declared.features.Feature.{Feature}
use Rattle.oc2_msg.specs.declared.commands.Command.{Command}
use Rattle.oc2_msg.specs.declared.commands.Command.TheVariants as command
use Rattle.oc2_msg_targets.specs.Parts.{whole_data, one_member}
use Rattle.oc2_msg_targets.specs.Words.{kind_word, action_word, feature_word, takes, is_deny, adds_rule}
use Rattle.oc2_msg_targets.specs.Features.{is_distinct}
use Rattle.oc2_msg_targets.specs.Targets.{has_part, target_in}
use Rattle.oc2_msg.specs.Args.{args_in, no_args, is_unserved}
use Rattle.oc2_msg.specs.Commands.{command_with, answer_to, is_command, action_of, kind_of, target_of, args_of}
use Rattle.oc2_msg_targets.specs.Ranges.{Each, FlowInRange}
use Rattle.oc2_msg.specs.Ranges.{RuleInRange, InRange}
use Rattle.oc2_msg_targets.specs.Least.{flow_kind, flow_value, features_data}
use Rattle.oc2_msg.specs.Least.{args_part, message, rule_action, command_data}
use Rattle.oc2_msg.specs.Laws.{HasCommand, CommandsReadBack}
use Rattle.oc2_msg_targets.proofs.PresentLemmas.{Part, ArePartsOf, IsFormed-object_of, depth-object_of}
use Rattle.oc2_msg_targets.proofs.ValueLemmas.{whole-whole_data, IsFormed-whole_data, IsUtf8-word, IsUtf8-net4_text, IsUtf8-net6_text, features_in-back, AreFormed-features, items_depth-texts, is_ascii_text}
use Rattle.oc2_msg.proofs.WordLemmas.{direction_read-back, drop_read-back}
use Rattle.oc2_msg_targets.proofs.TargetLemmas.{connection4-back, connection6-back, IsFormed-connection4, IsFormed-connection6}
use Rattle.oc2_msg.proofs.ArgLemmas.{args_read, args_back, args_are_object, args_fit}
use Rattle.oc2_msg.proofs.CommandLemmas.{answer_to-message, has_command}

-- ---- flows

takes-flow : (deny : Bool) (f : Flow) → takes (rule_action deny) (flow_kind f) ≡ true
takes-flow true (flow.Net4 net) = refl
takes-flow true (flow.Net6 net) = refl
takes-flow true (flow.Conn4 p s sp t tp) = refl
takes-flow true (flow.Conn6 p s sp t tp) = refl
takes-flow false (flow.Net4 net) = refl
takes-flow false (flow.Net6 net) = refl
takes-flow false (flow.Conn4 p s sp t tp) = refl
takes-flow false (flow.Conn6 p s sp t tp) = refl

target_in-flow : (f : Flow) → FlowInRange f → has_part f ≡ true → target_in (flow_kind f) (flow_value f) ≡ Some (target.Flow f)
target_in-flow (flow.Net4 net) fits some = ap (option_map (λ n. target.Flow (flow.Net4 n))) (net4_back net fits)
target_in-flow (flow.Net6 net) fits some = ap (option_map (λ n. target.Flow (flow.Net6 n))) (net6_back net fits)
target_in-flow (flow.Conn4 p s sp t tp) fits some = connection4-back p s sp t tp fits some
target_in-flow (flow.Conn6 p s sp t tp) fits some = connection6-back p s sp t tp fits some

value_fits : (f : Flow) → FlowInRange f → IsFormed (flow_value f) × (depth (flow_value f) ≤ 1)
value_fits (flow.Net4 net) fits = (IsUtf8-net4_text net fits, omega arith)
value_fits (flow.Net6 net) fits = (IsUtf8-net6_text net fits, omega arith)
value_fits (flow.Conn4 p s sp t tp) fits = IsFormed-connection4 p s sp t tp fits
value_fits (flow.Conn6 p s sp t tp) fits = IsFormed-connection6 p s sp t tp fits

is_ascii-kind_word : (k : TargetKind) → is_ascii_text (kind_word k) ≡ true
is_ascii-kind_word kind.Ipv4Net = refl
is_ascii-kind_word kind.Ipv6Net = refl
is_ascii-kind_word kind.Ipv4Connection = refl
is_ascii-kind_word kind.Ipv6Connection = refl
is_ascii-kind_word kind.RuleNumber = refl
is_ascii-kind_word kind.File = refl
is_ascii-kind_word kind.Features = refl

is_ascii-action_word : (a : Action) → is_ascii_text (action_word a) ≡ true
is_ascii-action_word action.Allow = refl
is_ascii-action_word action.Deny = refl
is_ascii-action_word action.Delete = refl
is_ascii-action_word action.Update = refl
is_ascii-action_word action.Query = refl

-- ---- the least object is of the profile

abbrev message_parts : Action → Option Data → Data → List Part
message_parts a args t = (codes "action", Some (string (action_word a))) ∷ (codes "args", args) ∷ (codes "target", Some t) ∷ []

is_tree : (a : Action) (args : Option Data) (k : TargetKind) (v : Data) → Each IsFormed args → Each (λ e. depth e ≤ 3) args → IsFormed v → depth v ≤ 2 → IsTree (message a args (one_member (kind_word k) v))
is_tree a args k v fargs dargs fv dv =
    let t = one_member (kind_word k) v in
    let parts : ArePartsOf 3 (message_parts a args t) = (
      IsUtf8-word (codes "action") refl,
      IsUtf8-word (action_word a) (is_ascii-action_word a),
      omega arith,
      (refl, (refl, tt)),
      (
        IsUtf8-word (codes "args") refl,
        fargs,
        dargs,
        (refl, tt),
        (IsUtf8-word (codes "target") refl, (IsUtf8-word (kind_word k) (is_ascii-kind_word k), fv, tt, tt), omega arith, tt, tt),
      ),
    ) in
    record {
      shallow = omega (arith, depth-object_of 3 (message_parts a args t) parts);
      formed = IsFormed-object_of 3 (message_parts a args t) parts;
    }

deeper : (m n : ℕ) (o : Option Data) → m ≤ n → Each (λ e. depth e ≤ m) o → Each (λ e. depth e ≤ n) o
deeper m n None le h = tt
deeper m n (Some d) le h = omega arith

is_tree-command : (c : Command) → InRange c → IsTree (command_data c)
is_tree-command (command.Rule deny f towards drops insert start stop duration) r =
    let args = args_fit towards drops insert start stop duration r.insert_fits r.start_fits r.stop_fits r.duration_fits in
    let value = value_fits f r.flow_fits in
    (is_tree (rule_action deny) (args_part towards drops insert start stop duration) (flow_kind f) (flow_value f) args.0 (deeper 2 3 _ (omega arith) args.1) value.0 (omega (arith, value.1)))
is_tree-command (command.Delete number) r = is_tree action.Delete None kind.RuleNumber (whole_data number) tt tt (IsFormed-whole_data number (omega (arith, r.1))) (omega arith)
is_tree-command (command.Update name) r = is_tree action.Update None kind.File (one_member (codes "name") (string name)) tt tt (IsUtf8-word (codes "name") refl, r, tt, tt) (omega arith)
is_tree-command (command.Query features) r = is_tree action.Query None kind.Features (features_data features) tt tt (AreFormed-features features) (omega (arith, items_depth-texts (map feature_word features)))

-- ---- it is answered by its command

is_deny-rule : (deny : Bool) → is_deny (rule_action deny) ≡ deny
is_deny-rule true = refl
is_deny-rule false = refl

adds_rule-rule : (deny : Bool) → adds_rule (rule_action deny) ≡ true
adds_rule-rule true = refl
adds_rule-rule false = refl

rule_again : (deny : Bool) (f : Flow) (towards : Direction) (drops : Drop3) (insert start stop duration : Option ℕ) → command_with (rule_action deny) (target.Flow f) (args_read towards drops insert start stop duration) ≡ command.Rule deny f towards drops insert start stop duration
rule_again deny f towards drops insert start stop duration = rw (is_deny-rule deny, direction_read-back towards, drop_read-back drops) refl

answer_to-rule : (deny : Bool) (f : Flow) (towards : Direction) (drops : Drop3) (insert start stop duration : Option ℕ) → RuleInRange deny f drops insert start stop duration → answer_to (command_data (command.Rule deny f towards drops insert start stop duration)) ≡ Ok (command.Rule deny f towards drops insert start stop duration)
answer_to-rule deny f towards drops insert start stop duration r =
    let args = args_part towards drops insert start stop duration in
    let read = args_read towards drops insert start stop duration in
    let back = args_back deny towards drops insert start stop duration r.may_drop r.insert_fits r.start_fits r.stop_fits r.duration_fits r.times in
    answer_to-message (rule_action deny) (flow_kind f) (flow_value f) (target.Flow f) args read (takes-flow deny f)
    (target_in-flow f r.flow_fits r.some_part) (args_are_object towards drops insert start stop duration)
    (ap (λ b. args_in b args) (is_deny-rule deny) ∙ back) (ap (λ b. is_unserved b read) (adds_rule-rule deny))
    ∙ ap Ok (rule_again deny f towards drops insert start stop duration)

features_read : (features : List Feature) → is_distinct features ≡ true → target_in kind.Features (features_data features) ≡ Some (target.Features features)
features_read features once = rw (features_in-back features, once) refl

answer_to-command : (c : Command) → InRange c → answer_to (command_data c) ≡ Ok c
answer_to-command (command.Rule deny f towards drops insert start stop duration) r = answer_to-rule deny f towards drops insert start stop duration r
answer_to-command (command.Delete number) r = answer_to-message action.Delete kind.RuleNumber (whole_data number) (target.RuleNumber number) None no_args refl (ap (option_map target.RuleNumber) (whole-whole_data 1 4294967295 number r.0 r.1)) refl refl refl
answer_to-command (command.Update name) r = answer_to-message action.Update kind.File (one_member (codes "name") (string name)) (target.File name) None no_args refl refl refl refl refl
answer_to-command (command.Query features) r = answer_to-message action.Query kind.Features (features_data features) (target.Features features) None no_args refl (features_read features r) refl refl refl

-- ---- the laws

pub commands_read_back : CommandsReadBack
commands_read_back c r = ap (λ found. answer_to (unwrap_or found null)) (tree-canon (command_data c) (is_tree-command c r)) ∙ answer_to-command c r

pub has_command_law : HasCommand
has_command_law d e = has_command (is_command d) (action_of d) (kind_of d) (target_of d) (args_of d) e
