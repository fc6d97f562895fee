-- Promise: Lists of rules.
use Rattle.std.specs.Prelude.{ℕ, max, Bool, not, ◌==◌, nat_lt, List, [], ◌∷◌, map, filter, find, Option, if◌then◌else◌}
use Rattle.std.specs.List.{list_any}
use Rattle.slpf_rules.specs.declared.rules.Rule.{Rule}

abbrev pub numbers : List Rule → List ℕ
numbers rules = map (λ rule. rule.number) rules

-- the rule of this number
abbrev pub rule_at : ℕ → List Rule → Option Rule
rule_at number rules = find (λ rule. rule.number == number) rules

-- whether a rule has this number
abbrev pub is_held : ℕ → List Rule → Bool
is_held number rules = list_any (λ rule. rule.number == number) rules

-- the greatest number, 0 where there is no rule
abbrev pub greatest : List Rule → ℕ
greatest [] = 0
greatest (rule ∷ rules) = max rule.number (greatest rules)

-- with one more rule, at its place in the order of the numbers
abbrev pub place : Rule → List Rule → List Rule
place rule [] = rule ∷ []
place rule (next ∷ rules) =
    if nat_lt rule.number next.number then rule ∷ next ∷ rules else next ∷ place rule rules

-- without the rule of this number
abbrev pub without : ℕ → List Rule → List Rule
without number rules = filter (λ rule. not (rule.number == number)) rules
