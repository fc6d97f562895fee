-- Promise: How many nets of each width there are.
use Rattle.std.specs.Prelude.{◌≡◌, ℕ, Bool, ◌==◌, ◌&&◌, List, count_by, slice_index}
use Rattle.slpf_rules.specs.declared.any_nets.AnyNet.{AnyNet}
use Rattle.slpf_rules.specs.declared.any_nets.AnyNet.TheVariants.{V4, V6}
use Rattle.slpf_rules.specs.declared.widths.Widths.{Widths}
use Rattle.slpf_rules.specs.AnyNets.{family, width}

-- how many nets have this net's family and width
abbrev pub count_at : Widths → AnyNet → ℕ
count_at widths (V4 net) = slice_index widths.v4 net.width
count_at widths (V6 net) = slice_index widths.v6 net.width

-- whether two nets have the same family and width
abbrev pub has_width_of : AnyNet → AnyNet → Bool
has_width_of net other = (family net == family other) && (width net == width other)

-- the counts are those of the nets
abbrev pub CountsWidths : Widths → List AnyNet → Type 0
CountsWidths widths nets = (net : AnyNet) → count_at widths net ≡ count_by (has_width_of net) nets
