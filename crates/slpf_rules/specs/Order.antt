-- Promise: The order of rules.
use Rattle.std.specs.Prelude.{◌≡◌, ℕ, ◌<◌, List, [], ◌∷◌, ⊤}
use Rattle.std.specs.List.Sorted.{IsStrictlySortedBy}
use Rattle.std.specs.Map.{keys_of, values_of}
use Rattle.std.specs.Ordering.{nat_cmp}
use Rattle.slpf_rules.specs.declared.rules.Rule.{Rule}
use Rattle.slpf_rules.specs.Rules.{numbers}

-- each rule has a greater number
abbrev pub IsAbove : ℕ → List Rule → Type 0
IsAbove number [] = ⊤
IsAbove number (rule ∷ rules) = (number < rule.number) × IsAbove number rules

-- each number is below those behind it
abbrev pub IsRising : List Rule → Type 0
IsRising [] = ⊤
IsRising (rule ∷ rules) = IsAbove rule.number rules × IsRising rules

-- each rule stands under its number, and the numbers rise
pub record IsNumbered (entries : List (ℕ × Rule)) : Type 0 where
  pub keyed : keys_of entries ≡ numbers (values_of entries)
  pub rising : IsStrictlySortedBy nat_cmp (keys_of entries)
