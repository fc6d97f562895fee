use Rattle.std.proofs.Common.{◌≡◌, ◌+◌, [], find, unwrap_or, ap, ◌∙◌, arith}
use Rattle.slpf_rules.specs.AnyNets.{width}
use Rattle.slpf_rules.specs.Deciding.{sooner, smallest}
use Rattle.slpf_rules.specs.IndexEntries.{at}
use Rattle.slpf_shadow.specs.Nets.{first_address, net_at}
use Rattle.slpf_shadow.specs.Searches.{number_shadows, shadows_below}
use Rattle.slpf_shadow.proofs.Leasts.{shadows_below-zero, shadows_below-more}
use Rattle.slpf_shadow.proofs.searching.lesser_round.Goals as goal

pub loop-bits-init : goal.loop-bits-init
loop-bits-init c = λ net_of h rising.
    let q = c.args.query.now in
    shadows_below-zero net_of q.rules.now q.later.now (first_address c.args.net.now) c.args.best

pub loop-bits-preserved : goal.loop-bits-preserved
loop-bits-preserved c = λ net_of h rising.
    let q = c.args.query.now in
    let entries = c.args.nets.now.entries in
    let bits = c.loop-bits.bits in
    let address = first_address c.args.net.now in
    c.lesser_under-least.ensures
    ∙ ap (λ net. sooner c.loop-bits.least (find (number_shadows q.rules.now q.later.now) (unwrap_or (at entries net) [])))
    (c.net_at.ensures ∙ ap (λ a. net_at a bits) c.first_address-address.ensures.value)
    ∙ shadows_below-more net_of q.rules.now entries q.later.now address bits c.args.best c.loop-bits.least
    (omega (arith, c.width-bits-end.ensures.fits)) h rising (c.loop-bits.invariant net_of h rising)

pub returns : goal.returns
returns c = λ net_of h rising.
    let q = c.args.query.now in
    let bits : c.loop-bits.bits ≡ width c.args.net.now + 1 = omega (arith, c.width-bits-end.ensures.value) in
    c.loop-bits.invariant net_of h rising
    ∙ ap (λ n. sooner c.args.best (smallest (shadows_below net_of n (first_address c.args.net.now) q.later.now) q.rules.now)) bits
