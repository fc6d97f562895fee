-- The rules of one side after one was placed or taken out that has no net there.
use Rattle.std.proofs.Common.{◌≡◌, nat_eq, List, Option, Some, None, ap}
use Rattle.std.specs.HashMap.{get}
use Rattle.oc2_nets.specs.declared.flows.Flow.{Flow}
use Rattle.slpf_rules.specs.declared.any_nets.AnyNet.{AnyNet}
use Rattle.slpf_rules.specs.declared.any_nets.AnyNet.TheVariants.{V4}
use Rattle.slpf_rules.specs.declared.rules.Rule.{Rule}
use Rattle.slpf_rules.specs.declared.sides.Side.{Side}
use Rattle.slpf_rules.specs.Filed.{is_net}
use Rattle.slpf_rules.specs.Order.{IsRising}
use Rattle.slpf_rules.specs.Rules.{rule_at, place, without}
use Rattle.slpf_rules.specs.Filing.{IsSide}
use Rattle.slpf_rules.proofs.Indexed.{files, filter-without_other, IsIndexOf-place_none, IsIndexOf-without_none}
use Rattle.slpf_rules.proofs.Rising.{filter-place_other}
use Rattle.slpf_rules.proofs.BriefLemmas.{AllListed-same}
use Rattle.slpf_rules.proofs.QuickLemmas.{IsAlone-place_none, IsAlone-without_none}
use Rattle.slpf_rules.proofs.QuickLemmas6.{IsAlone6-place_none, IsAlone6-without_none}

pub IsSide-place_none : (net_of : Flow → Option AnyNet) (rule : Rule) (rules : List Rule) (side : Side) → IsSide net_of rules side → net_of rule.flow ≡ None → IsSide net_of (place rule rules) side
IsSide-place_none net_of rule rules side h is = record {
  indexed = IsIndexOf-place_none net_of rule rules side.index h.indexed is;
  quick = λ slot reads. IsAlone-place_none net_of rule rules side.quick.since slot is (h.quick slot reads);
  quick6 = λ slot reads. IsAlone6-place_none net_of rule rules side.quick6.since slot is (h.quick6 slot reads);
  blocks = h.blocks;
  lists = AllListed-same (λ found. found.items) net_of rules (place rule rules) (get nat_eq side.lists.by_key)
      (λ b. filter-place_other (files net_of (V4 b)) rule rules (ap (is_net (V4 b)) is)) h.lists;
}

pub IsSide-without_none : (net_of : Flow → Option AnyNet) (rule : Rule) (rules : List Rule) (side : Side) → IsSide net_of rules side → net_of rule.flow ≡ None
    → IsRising rules → rule_at rule.number rules ≡ Some rule → IsSide net_of (without rule.number rules) side
IsSide-without_none net_of rule rules side h is rising held = record {
  indexed = IsIndexOf-without_none net_of rule rules side.index h.indexed is rising held;
  quick = λ slot reads. IsAlone-without_none net_of rule rules side.quick.since slot is rising held (h.quick slot reads);
  quick6 = λ slot reads. IsAlone6-without_none net_of rule rules side.quick6.since slot is rising held (h.quick6 slot reads);
  blocks = h.blocks;
  lists = AllListed-same (λ found. found.items) net_of rules (without rule.number rules) (get nat_eq side.lists.by_key)
      (λ b. filter-without_other (files net_of (V4 b)) rule.number rule rules rising held (ap (is_net (V4 b)) is)) h.lists;
}
