use Rattle.std.proofs.Common.{◌≡◌, Option}
use Rattle.oc2_nets.specs.declared.flows.Flow.{Flow}
use Rattle.slpf_rules.specs.declared.any_nets.AnyNet.{AnyNet}
use Rattle.slpf_rules.specs.Order.{IsRising}
use Rattle.slpf_rules.specs.Filing.{IsIndexOf}
use Rattle.slpf_rules.specs.Deciding.{sooner, smallest}
use Rattle.slpf_shadow.specs.Nets.{first_address}
use Rattle.slpf_shadow.specs.Searches.{shadows_below}
use Rattle.slpf_shadow.proofs.searching.lesser_round.Given as goal

abbrev pub invariant-loop-bits : goal.invariant-loop-bits
invariant-loop-bits l =
    (net_of : Flow → Option AnyNet) → IsIndexOf net_of l.query.rules.now l.nets.entries → IsRising l.query.rules.now
    → l.least ≡ sooner l.fn.best (smallest (shadows_below net_of l.bits (first_address l.net) l.query.later.now) l.query.rules.now)
