-- Promise: What an index keeps beside its entries.
use Rattle.std.specs.Prelude.{ℕ, List}
use Rattle.std.specs.Map.{keys_of}
use Rattle.slpf_rules.specs.declared.any_nets.AnyNet.{AnyNet}
use Rattle.slpf_rules.specs.declared.soles.Soles.{Soles}
use Rattle.slpf_rules.specs.declared.widths.Widths.{Widths}
use Rattle.slpf_rules.specs.Soles.{AreSoles}
use Rattle.slpf_rules.specs.Widths.{CountsWidths}

-- the counts are those of the nets, and what is known of each net's numbers holds
pub record IsIndex (widths : Widths) (known : Soles) (entries : List (AnyNet × List ℕ)) : Type 0 where
  pub counts : CountsWidths widths (keys_of entries)
  pub soles : AreSoles known entries
