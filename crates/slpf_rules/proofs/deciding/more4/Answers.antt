use Rattle.std.proofs.Common.{◌≡◌, [], true, Option, find, unwrap_or, sym, ap, subst, ◌∙◌}
use Rattle.oc2_nets.specs.declared.packets.Address.TheVariants as kind
use Rattle.oc2_nets.specs.Nets.{net4}
use Rattle.slpf_rules.specs.declared.any_nets.AnyNet.{AnyNet}
use Rattle.slpf_rules.specs.declared.any_nets.AnyNet.TheVariants.{V4}
use Rattle.slpf_rules.specs.Deciding.{number_decides}
use Rattle.slpf_rules.specs.Picking.{picked}
use Rattle.slpf_rules.specs.Slots.{is_of}
use Rattle.slpf_rules.proofs.NetWidths.{holds_below-more4}
use Rattle.slpf_rules.proofs.PickLemmas.{picked-more, earlier-none}
use Rattle.slpf_rules.proofs.QuickDecides.{alone_said, holds_net}
use Rattle.slpf_rules.proofs.deciding.more4.Goals as goal

pub returns-then-not-has4 : goal.returns-then-not-has4
returns-then-not-has4 c = λ net_of h rising covered is.
    let q = c.args.query.now in
    let rules = q.rules.now in
    let e = number_decides rules q.packet.now q.moment in
    let entries = c.args.side.now.index in
    sym (earlier-none c.args.best)
    ∙ picked-more net_of rules entries q.packet.now q.moment (kind.V4 c.args.address) c.args.width (V4 (net4 c.args.address c.args.width)) c.args.best _
    (λ o. holds_below-more4 c.args.width c.args.address o c.requires) h.indexed rising is
    (ap (λ o. picked rules (find e (unwrap_or o []))) (sym (c.if-not-has4.ensures c.args.address)))

pub returns-in-Some : goal.returns-in-Some
returns-in-Some c = λ net_of h rising covered is.
    let q = c.args.query.now in
    let rules = q.rules.now in
    let entries = c.args.side.now.index in
    let net = net4 c.args.address c.args.width in
    let a = kind.V4 c.args.address in
    let more = λ (o : Option AnyNet). holds_below-more4 c.args.width c.args.address o c.requires in
    c.earlier.ensures
    ∙ picked-more net_of rules entries q.packet.now q.moment a c.args.width (V4 net) c.args.best _ more h.indexed rising is
    (c.said.ensures
    ∙ alone_said net_of rules entries q.packet.now c.args.side.now.quick.since q.moment net c.in-Some.slot (h.quick c.in-Some.slot c.in-Some.ensures.read)
    (subst (λ n. is_of n c.in-Some.slot ≡ true) c.new.ensures c.in-Some.ensures.of) c.in-Some.ensures.begun h.indexed rising
    (λ f of_net same. covered f of_net (holds_net c.args.width a (V4 net) (net_of f) (more (net_of f)) same)))

pub returns-in-None : goal.returns-in-None
returns-in-None c = λ net_of h rising covered is. c.listed4.ensures net_of h rising is
