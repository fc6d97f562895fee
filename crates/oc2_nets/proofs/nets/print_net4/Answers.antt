use Rattle.oc2_nets.proofs.RoundTrips.{net4_back}
use Rattle.std.proofs.Common.{◌≡◌, arith, ap, ◌∙◌}
use Rattle.std.specs.Net.Addr.{IsIpv4OfBits}
use Rattle.oc2_nets.specs.Nets.{net4_text, net4_of}
use Rattle.oc2_nets.proofs.NetPrinting.{net4_shown}
use Rattle.oc2_nets.proofs.nets.print_net4.Goals as goal

pub returns-clause-text : goal.returns-clause-text
unfolding IsIpv4OfBits
returns-clause-text c = c.from_string.ensures ∙ c.in_ok-format.ensures.ok ∙ net4_shown c.args.net.now.bits c.args.net.now.width c.from_bits-address.result.octets (omega arith) c.from_bits-address.ensures

pub returns-clause-back : goal.returns-clause-back
unfolding IsIpv4OfBits
returns-clause-back c =
    let text : c.from_string.result ≡ net4_text c.args.net.now = returns-clause-text c in
    ap net4_of text ∙ net4_back c.args.net.now (omega arith)
