-- Scaffold: Present texts as an ordered map has them.
use Rattle.std.specs.Prelude.{ℕ, Bool, List, Option, Some, option_and_then}
use Rattle.std.specs.Ordering.{nat_cmp}
use Rattle.std.specs.Cmp.Lexicographic.{slice_cmp}
use Rattle.std.specs.Map.{lookup, set_value}
use Rattle.std.specs.BTreeMap.{is_at}
use Rattle.flow_core_rules.specs.State.{Texts}

abbrev pub is_name_at : List ℕ → List ℕ → Bool
is_name_at name = is_at (slice_cmp nat_cmp name)

abbrev pub entry_in : Texts → List ℕ → Option (List ℕ)
entry_in texts name = option_and_then (λ text. text) (lookup (is_name_at name) texts)

abbrev pub set_in : Texts → List ℕ → List ℕ → Texts
set_in texts name worth = set_value (is_name_at name) texts (Some worth)
