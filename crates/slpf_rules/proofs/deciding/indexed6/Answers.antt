use Rattle.std.proofs.Common.{[], find, unwrap_or, sym, ap, ◌∙◌}
use Rattle.oc2_nets.specs.declared.packets.Address.TheVariants as kind
use Rattle.oc2_nets.specs.Nets.{net6}
use Rattle.slpf_rules.specs.declared.any_nets.AnyNet.TheVariants.{V6}
use Rattle.slpf_rules.specs.IndexEntries.{at}
use Rattle.slpf_rules.specs.Deciding.{number_decides}
use Rattle.slpf_rules.specs.Picking.{picked}
use Rattle.slpf_rules.proofs.NetWidths.{holds_below-more6}
use Rattle.slpf_rules.proofs.PickLemmas.{picked-more, earlier-none}
use Rattle.slpf_rules.proofs.deciding.indexed6.Goals as goal

pub returns-in-Some : goal.returns-in-Some
returns-in-Some c = λ net_of h rising is.
    let q = c.args.query.now in
    let rules = q.rules.now in
    let e = number_decides rules q.packet.now q.moment in
    let entries = c.args.side.now.index in
    c.earlier.ensures
    ∙ picked-more net_of rules entries q.packet.now q.moment (kind.V6 c.args.address) c.args.width (V6 (net6 c.args.address c.args.width)) c.args.best _
    (λ o. holds_below-more6 c.args.width c.args.address o c.requires) h.indexed rising is
    (c.picked.ensures ∙ ap (picked rules) (c.first_under-first.ensures ∙ ap (λ n. find e (unwrap_or (at entries (V6 n)) [])) c.new.ensures))

pub returns-in-None : goal.returns-in-None
returns-in-None c = λ net_of h rising is.
    let q = c.args.query.now in
    let rules = q.rules.now in
    let e = number_decides rules q.packet.now q.moment in
    let entries = c.args.side.now.index in
    sym (earlier-none c.args.best)
    ∙ picked-more net_of rules entries q.packet.now q.moment (kind.V6 c.args.address) c.args.width (V6 (net6 c.args.address c.args.width)) c.args.best _
    (λ o. holds_below-more6 c.args.width c.args.address o c.requires) h.indexed rising is
    (ap (λ o. picked rules (find e (unwrap_or o []))) (sym c.in-None.ensures))
