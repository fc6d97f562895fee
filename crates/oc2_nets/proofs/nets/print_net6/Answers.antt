use Rattle.oc2_nets.proofs.RoundTrips.{net6_back}
use Rattle.std.proofs.Common.{◌≡◌, arith, ap, ◌∙◌}
use Rattle.oc2_nets.specs.Nets.{net6_text, net6_of}
use Rattle.oc2_nets.proofs.NetPrinting.{net6_shown}
use Rattle.oc2_nets.proofs.nets.print_net6.Goals as goal

pub returns-clause-text : goal.returns-clause-text
returns-clause-text c =
    c.from_string.ensures ∙ c.in_ok-format.ensures.ok
    ∙ net6_shown c.args.net.now.bits c.args.net.now.width _ _ (omega arith) c.in_ok-high.ensures c.in_ok-low.ensures

pub returns-clause-back : goal.returns-clause-back
returns-clause-back c =
    let text : c.from_string.result ≡ net6_text c.args.net.now = returns-clause-text c in
    ap net6_of text ∙ net6_back c.args.net.now (omega arith)
