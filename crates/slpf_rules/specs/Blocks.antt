-- Promise: Which widths of IPv6 nets are looked up.
use Rattle.std.specs.Prelude.{◌≡◌, ℕ, ◌/◌, Bool, true, false, List, None, slice_index_or}
use Rattle.slpf_rules.specs.declared.any_nets.AnyNet.{AnyNet}
use Rattle.slpf_rules.specs.declared.any_nets.AnyNet.TheVariants.{V4, V6}
use Rattle.slpf_rules.specs.declared.blocks.Blocks.{Blocks}
use Rattle.slpf_rules.specs.IndexEntries.{at}

-- whether nets of a width may be filed; those of IPv4 always may
abbrev pub is_used : Blocks → AnyNet → Bool
is_used blocks (V4 net) = true
is_used blocks (V6 net) = slice_index_or blocks.used (net.width / 16) false

-- nothing is filed under the others
abbrev pub AreUsed : Blocks → List (AnyNet × List ℕ) → Type 0
AreUsed blocks entries = (net : AnyNet) → is_used blocks net ≡ false → at entries net ≡ None
