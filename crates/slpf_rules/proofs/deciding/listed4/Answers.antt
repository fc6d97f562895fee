use Rattle.std.proofs.Common.{◌≡◌, Some, nat_eq, sym, ap, subst, ◌∙◌}
use Rattle.std.specs.HashMap.{get}
use Rattle.oc2_nets.specs.declared.packets.Address.TheVariants as kind
use Rattle.oc2_nets.specs.Nets.{net4}
use Rattle.slpf_rules.specs.declared.any_nets.AnyNet.TheVariants.{V4}
use Rattle.slpf_rules.specs.Briefs.{said_of}
use Rattle.slpf_rules.specs.Soles.{key4}
use Rattle.slpf_rules.proofs.NetWidths.{holds_below-more4}
use Rattle.slpf_rules.proofs.PickLemmas.{picked-more}
use Rattle.slpf_rules.proofs.BriefLemmas.{AllListed-at, briefs_said}
use Rattle.slpf_rules.proofs.deciding.listed4.Goals as goal

pub returns-in-Some : goal.returns-in-Some
returns-in-Some c = λ net_of h rising is.
    let q = c.args.query.now in
    let rules = q.rules.now in
    let entries = c.args.side.now.index in
    let net = net4 c.args.address c.args.width in
    let list = c.in-Some.list.now.items in
    let told = AllListed-at (λ found. found.items) net_of rules (get nat_eq c.args.side.now.lists.by_key) (key4 c.new.result) net c.in-Some.list.now c.in-Some.ensures (ap key4 c.new.ensures) h.lists in
    c.earlier.ensures
    ∙ picked-more net_of rules entries q.packet.now q.moment (kind.V4 c.args.address) c.args.width (V4 net) c.args.best _
    (λ o. holds_below-more4 c.args.width c.args.address o c.requires) h.indexed rising is
    (c.said_of.ensures ∙ ap said_of c.first_brief.ensures ∙ briefs_said net_of rules entries q.packet.now q.moment net list told h.indexed rising)

pub returns-in-None : goal.returns-in-None
returns-in-None c = λ net_of h rising is. c.indexed4.ensures net_of h rising is
