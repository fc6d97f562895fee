-- Promise: What is listed of the rules that others shadow.
use Rattle.std.specs.Prelude.{◌≡◌, ◌≤◌, ℕ, List, map, Contains}
use Rattle.slpf_rules.specs.declared.rules.Rule.{Rule}
use Rattle.slpf_shadow.specs.declared.shadow_lists.Shadow.{Shadow}
use Rattle.slpf_shadow.specs.Shadows.{Shadows}

-- the numbers of the rules that are listed
abbrev pub shadowed_numbers : List Shadow → List ℕ
shadowed_numbers list = map (λ shadow. shadow.rule) list

-- one of the rules shadows this one by itself
pub record IsShadowed (rules : List Rule) (later : Rule) : Type 0 where
  pub earlier : Rule
  pub held : Contains rules earlier
  pub shadows : Shadows earlier later

-- `by` is the least number of a rule that shadows the rule of the number `rule`
pub record IsLeastShadow (rules : List Rule) (shadow : Shadow) : Type 0 where
  pub later : Rule
  pub later_held : Contains rules later
  pub later_number : later.number ≡ shadow.rule
  pub earlier : Rule
  pub earlier_held : Contains rules earlier
  pub earlier_number : earlier.number ≡ shadow.by
  pub shadows : Shadows earlier later
  pub least : (other : Rule) → Contains rules other → Shadows other later → shadow.by ≤ other.number
