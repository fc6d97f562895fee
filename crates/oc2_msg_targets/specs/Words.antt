-- Promise: The words of actions, targets and features, and what they stand for.
use Rattle.std.specs.Prelude.{ℕ, List, [], ◌∷◌, Bool, true, false, Option, codes}
use Rattle.oc2_msg_targets.specs.declared.actions.Action.{Action}
use Rattle.oc2_msg_targets.specs.declared.actions.Action.TheVariants as action
use Rattle.oc2_msg_targets.specs.declared.kinds.TargetKind.{TargetKind}
use Rattle.oc2_msg_targets.specs.declared.kinds.TargetKind.TheVariants as kind
use Rattle.oc2_msg_targets.specs.declared.features.Feature.{Feature}
use Rattle.oc2_msg_targets.specs.declared.features.Feature.TheVariants as feature
use Rattle.oc2_msg_targets.specs.Parts.{named}

abbrev pub action_word : Action → List ℕ
action_word action.Allow = codes "allow"
action_word action.Deny = codes "deny"
action_word action.Delete = codes "delete"
action_word action.Update = codes "update"
action_word action.Query = codes "query"

abbrev pub actions : List (List ℕ × Action)
actions =
    (codes "allow", action.Allow) ∷ (codes "deny", action.Deny) ∷ (codes "delete", action.Delete)
    ∷ (codes "update", action.Update) ∷ (codes "query", action.Query) ∷ []

abbrev pub action_named : List ℕ → Option Action
action_named text = named actions text

abbrev pub kind_word : TargetKind → List ℕ
kind_word kind.Ipv4Net = codes "ipv4_net"
kind_word kind.Ipv6Net = codes "ipv6_net"
kind_word kind.Ipv4Connection = codes "ipv4_connection"
kind_word kind.Ipv6Connection = codes "ipv6_connection"
kind_word kind.RuleNumber = codes "slpf:rule_number"
kind_word kind.File = codes "file"
kind_word kind.Features = codes "features"

abbrev pub kinds : List (List ℕ × TargetKind)
kinds =
    (codes "ipv4_net", kind.Ipv4Net) ∷ (codes "ipv6_net", kind.Ipv6Net)
    ∷ (codes "ipv4_connection", kind.Ipv4Connection) ∷ (codes "ipv6_connection", kind.Ipv6Connection)
    ∷ (codes "slpf:rule_number", kind.RuleNumber) ∷ (codes "file", kind.File) ∷ (codes "features", kind.Features) ∷ []

abbrev pub kind_named : List ℕ → Option TargetKind
kind_named text = named kinds text

abbrev pub is_flow : TargetKind → Bool
is_flow kind.Ipv4Net = true
is_flow kind.Ipv6Net = true
is_flow kind.Ipv4Connection = true
is_flow kind.Ipv6Connection = true
is_flow kind.RuleNumber = false
is_flow kind.File = false
is_flow kind.Features = false

-- which targets an action takes
abbrev pub takes : Action → TargetKind → Bool
takes action.Allow k = is_flow k
takes action.Deny k = is_flow k
takes action.Delete kind.RuleNumber = true
takes action.Update kind.File = true
takes action.Query kind.Features = true
takes a k = false

-- a rule that denies
abbrev pub is_deny : Action → Bool
is_deny action.Allow = false
is_deny action.Deny = true
is_deny action.Delete = false
is_deny action.Update = false
is_deny action.Query = false

-- the actions that add a rule
abbrev pub adds_rule : Action → Bool
adds_rule action.Allow = true
adds_rule action.Deny = true
adds_rule action.Delete = false
adds_rule action.Update = false
adds_rule action.Query = false

abbrev pub feature_word : Feature → List ℕ
feature_word feature.Versions = codes "versions"
feature_word feature.Profiles = codes "profiles"
feature_word feature.Pairs = codes "pairs"
feature_word feature.RateLimit = codes "rate_limit"

abbrev pub feature_named : List ℕ → Option Feature
feature_named text =
    named ((codes "versions", feature.Versions) ∷ (codes "profiles", feature.Profiles)
    ∷ (codes "pairs", feature.Pairs) ∷ (codes "rate_limit", feature.RateLimit) ∷ []) text
