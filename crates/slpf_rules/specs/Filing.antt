-- Promise: The index beside the rules.
use Rattle.std.specs.Prelude.{◌≡◌, ℕ, List, Option}
use Rattle.oc2_nets.specs.declared.flows.Flow.{Flow}
use Rattle.slpf_rules.specs.declared.any_nets.AnyNet.{AnyNet}
use Rattle.slpf_rules.specs.declared.filing.Filing.{Filing}
use Rattle.slpf_rules.specs.declared.rules.Rule.{Rule}
use Rattle.slpf_rules.specs.declared.sides.Side.{Side}
use Rattle.slpf_rules.specs.Blocks.{AreUsed}
use Rattle.slpf_rules.specs.Briefs.{AreListed}
use Rattle.slpf_rules.specs.Filed.{source_net, destination_net, filed, unfiled}
use Rattle.slpf_rules.specs.IndexEntries.{at}
use Rattle.slpf_rules.specs.Quick.{AreAlone}
use Rattle.slpf_rules.specs.Quick6.{AreAlone6}

-- the entries are what is filed under each net
abbrev pub IsIndexOf : (Flow → Option AnyNet) → List Rule → List (AnyNet × List ℕ) → Type 0
IsIndexOf net_of rules entries = (net : AnyNet) → at entries net ≡ filed net_of rules net

-- the index is that of the rules, and what is read first is true of them
pub record IsSide (net_of : Flow → Option AnyNet) (rules : List Rule) (side : Side) : Type 0 where
  pub indexed : IsIndexOf net_of rules side.index
  pub quick : AreAlone net_of rules side.quick
  pub quick6 : AreAlone6 net_of rules side.quick6
  pub blocks : AreUsed side.blocks side.index
  pub lists : AreListed net_of rules side.lists

-- each rule is filed where it belongs, and nowhere else
pub record IsFiling (rules : List Rule) (filing : Filing) : Type 0 where
  pub sources : IsSide source_net rules filing.sources
  pub destinations : IsSide destination_net rules filing.destinations
  pub unfiled : filing.unfiled ≡ unfiled rules
