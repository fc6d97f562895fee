-- Promise: The entries of an index: numbers by net.
use Rattle.std.specs.Prelude.{◌≡◌, ℕ, List, [], Option, Some, unwrap_or, if◌then◌else◌}
use Rattle.std.specs.Map.{lookup}
use Rattle.std.specs.Set.{remove_key}
use Rattle.std.specs.BTreeMap.{is_at}
use Rattle.std.specs.BTreeSet.{insert_key}
use Rattle.std.specs.Ordering.{nat_cmp}
use Rattle.slpf_rules.specs.declared.any_nets.AnyNet.{AnyNet}
use Rattle.slpf_rules.specs.AnyNets.{net_cmp}
use Rattle.slpf_rules.specs.Filed.{listed}

-- what stands under a net
abbrev pub at : List (AnyNet × List ℕ) → AnyNet → Option (List ℕ)
at entries net = lookup (is_at (net_cmp net)) entries

-- a number was put under a net
abbrev pub Puts : List (AnyNet × List ℕ) → List (AnyNet × List ℕ) → AnyNet → ℕ → Type 0
Puts old new net number = (other : AnyNet) → at new other
    ≡ (if is_at (net_cmp net) other then Some (insert_key nat_cmp (unwrap_or (at old net) []) number) else at old other)

-- a number was taken from under a net
abbrev pub Takes : List (AnyNet × List ℕ) → List (AnyNet × List ℕ) → AnyNet → ℕ → Type 0
Takes old new net number = (other : AnyNet) → at new other
    ≡ (if is_at (net_cmp net) other then listed (remove_key (is_at (nat_cmp number)) (unwrap_or (at old net) []))
    else at old other)
