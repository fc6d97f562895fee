-- Promise: The lines that tell of a filter: its rules, what it decides, and which of its rules never decide. Each ends with a line feed.
use Rattle.std.specs.Prelude.{◌≡◌, ◌↔◌, ℕ, Bool, true, false, zero, suc, List, [], ◌∷◌, ◌++◌, map, codes, decimal, All, Contains, Option, Some, None}
use Rattle.std.specs.List.Sorted.{IsStrictlyIncreasing}
use Rattle.oc2_nets.specs.declared.flows.Flow.{Flow}
use Rattle.oc2_nets.specs.declared.flows.Flow.TheVariants.{Net4, Net6, Conn4, Conn6}
use Rattle.oc2_nets.specs.declared.packets.Packet.{Packet}
use Rattle.oc2_nets.specs.Nets.{net4_text, net6_text}
use Rattle.oc2_nets.specs.Packets.{protocol_word}
use Rattle.oc2_msg.specs.declared.drops.Drop3.{Drop3}
use Rattle.oc2_msg.specs.Words.{direction_word, drop_word}
use Rattle.slpf_rules.specs.declared.rules.Rule.{Rule}
use Rattle.slpf_rules.specs.declared.verdicts.Verdict.{Verdict}
use Rattle.slpf_rules.specs.Verdicts.{verdict}
use Rattle.slpf_shadow.specs.declared.shadow_lists.Shadow.{Shadow}
use Rattle.slpf_shadow.specs.Listed.{IsLeastShadow, IsShadowed, shadowed_numbers}

-- words with a space between each two
abbrev pub words : List ℕ → List (List ℕ) → List ℕ
words first [] = first
words first (word ∷ more) = first ++ 32 ∷ words word more

-- the same, with a line feed
abbrev pub line : List ℕ → List (List ℕ) → List ℕ
line first [] = first ++ 10 ∷ []
line first (word ∷ more) = first ++ 32 ∷ line word more

-- ---- the rules

-- a hyphen where there is none
abbrev pub or_hyphen : {A : Type 0} → (A → List ℕ) → Option A → List ℕ
or_hyphen text None = codes "-"
or_hyphen text (Some x) = text x

abbrev pub flow_text : Flow → List ℕ
flow_text (Net4 net) = words (codes "net4") (net4_text net ∷ [])
flow_text (Net6 net) = words (codes "net6") (net6_text net ∷ [])
flow_text (Conn4 protocol src src_port dst dst_port) = words (codes "conn4")
    (or_hyphen protocol_word protocol ∷ or_hyphen net4_text src ∷ or_hyphen decimal src_port ∷ or_hyphen net4_text dst
    ∷ or_hyphen decimal dst_port ∷ [])
flow_text (Conn6 protocol src src_port dst dst_port) = words (codes "conn6")
    (or_hyphen protocol_word protocol ∷ or_hyphen net6_text src ∷ or_hyphen decimal src_port ∷ or_hyphen net6_text dst
    ∷ or_hyphen decimal dst_port ∷ [])

abbrev pub verdict_word : Bool → List ℕ
verdict_word true = codes "deny"
verdict_word false = codes "allow"

-- what a rule that denies does with a packet; one that allows does nothing
abbrev pub drop_text : Bool → Drop3 → List ℕ
drop_text true drop = drop_word drop
drop_text false drop = codes "-"

-- NUMBER VERDICT DIRECTION FLOW START STOP DROP
abbrev pub rule_line : Rule → List ℕ
rule_line rule =
    line (words (decimal rule.number) (verdict_word rule.deny ∷ direction_word rule.direction ∷ flow_text rule.flow ∷ []))
    (decimal rule.start ∷ or_hyphen decimal rule.stop ∷ drop_text rule.deny rule.drop ∷ [])

-- the lines of the rules, in order
abbrev pub rule_lines : List Rule → List (List ℕ)
rule_lines rules = map rule_line rules

-- ---- the decisions

-- the number of a rule, a hyphen for none
abbrev pub deciding : ℕ → List ℕ
deciding zero = codes "-"
deciding (suc n) = decimal (suc n)

abbrev pub decision_line : Verdict → List ℕ
decision_line verdict = line (verdict_word verdict.deny) (deciding verdict.rule ∷ [])

-- the decision for each packet at its moment, in order
abbrev pub decision_lines : List (ℕ × Packet) → List Rule → List (List ℕ)
decision_lines packets rules = map (λ packet. decision_line (verdict rules packet.1 packet.0)) packets

-- ---- the rules that never decide

-- RULE by EARLIER
abbrev pub shadow_line : Shadow → List ℕ
shadow_line shadow = line (decimal shadow.rule) (codes "by" ∷ decimal shadow.by ∷ [])

-- exactly the rules that one earlier rule shadows by itself, in order of number, each with the least number of a rule that does
pub record AreShadowed (rules : List Rule) (list : List Shadow) : Type 0 where
  pub listed : (later : Rule) → Contains rules later → (Contains (shadowed_numbers list) later.number ↔ IsShadowed rules later)
  pub least : All (IsLeastShadow rules) list
  pub rising : IsStrictlyIncreasing (shadowed_numbers list)

-- the lines of these rules
pub record AreShadowLines (rules : List Rule) (lines : List (List ℕ)) : Type 0 where
  pub list : List Shadow
  pub shadowed : AreShadowed rules list
  pub are : lines ≡ map shadow_line list
