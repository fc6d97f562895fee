use Rattle.std.proofs.Common.{subst, sym}
use Rattle.oc2_nets.specs.NetFacts.{cleared_is_cleared}
use Rattle.oc2_nets.specs.Bits.{IsCleared}
use Rattle.oc2_nets.proofs.ipv6_nets.Net6.new.Goals as goal

pub invariant_of-result : goal.invariant_of-result
invariant_of-result c = record {
  in_range = c.requires;
  host_bits = subst (λ b. IsCleared 128 b c.args.width) (sym c.clear.ensures) (cleared_is_cleared 128 c.args.address c.args.width);
}
