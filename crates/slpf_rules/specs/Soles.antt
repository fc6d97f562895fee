-- Promise: What is known at once of the numbers under a net.
use Rattle.std.specs.Prelude.{◌≡◌, ℕ, ◌+◌, ◌*◌, nat_eq, List, [], ◌∷◌, Option, Some, None, ⊤}
use Rattle.std.specs.HashMap.{get}
use Rattle.oc2_nets.specs.declared.ipv4_nets.Net4.{Net4}
use Rattle.slpf_rules.specs.declared.any_nets.AnyNet.{AnyNet}
use Rattle.slpf_rules.specs.declared.any_nets.AnyNet.TheVariants.{V4, V6}
use Rattle.slpf_rules.specs.declared.soles.Soles.{Soles}
use Rattle.slpf_rules.specs.IndexEntries.{at}

-- the number that stands for an IPv4 net
abbrev pub key4 : Net4 → ℕ
key4 net = net.bits * 256 + net.width

-- what is kept of a net; nothing of IPv6 nets
abbrev pub sole_at : Soles → AnyNet → Option (Option ℕ)
sole_at soles (V4 net) = get nat_eq soles.by_key (key4 net)
sole_at soles (V6 net) = Some None

-- what is known of a net that is not held
abbrev pub unheld : AnyNet → Option (Option ℕ)
unheld (V4 net) = None
unheld (V6 net) = Some None

-- what is kept where this is known of a net
abbrev pub kept : AnyNet → Option ℕ → Option ℕ
kept (V4 net) sole = sole
kept (V6 net) sole = None

-- what is known holds of the numbers: there are none, or this one alone; or nothing is known
abbrev pub IsSole : Option (Option ℕ) → Option (List ℕ) → Type 0
IsSole None numbers = numbers ≡ None
IsSole (Some None) numbers = ⊤
IsSole (Some (Some number)) numbers = numbers ≡ Some (number ∷ [])

-- what is known holds of each net's numbers
abbrev pub AreSoles : Soles → List (AnyNet × List ℕ) → Type 0
AreSoles soles entries = (net : AnyNet) → IsSole (sole_at soles net) (at entries net)
