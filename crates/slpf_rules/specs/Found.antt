-- Promise: Rules that are found by their number.
use Rattle.std.specs.Prelude.{◌≡◌, ℕ, nat_eq, List}
use Rattle.std.specs.BTreeMap.{is_at}
use Rattle.std.specs.HashMap.{HashMap, get}
use Rattle.std.specs.Map.{lookup}
use Rattle.std.specs.Ordering.{nat_cmp}
use Rattle.slpf_rules.specs.declared.rules.Rule.{Rule}
use Rattle.slpf_rules.specs.Order.{IsNumbered}

-- each rule stands under its number, the numbers rise, and each rule is found by its number
pub record IsRules {S : Type 0} (found : HashMap ℕ Rule S) (entries : List (ℕ × Rule)) : Type 0 where
  pub numbered : IsNumbered entries
  pub finds : (number : ℕ) → get nat_eq found number ≡ lookup (is_at (nat_cmp number)) entries
