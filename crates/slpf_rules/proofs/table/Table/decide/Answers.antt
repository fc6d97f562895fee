use Rattle.std.proofs.Common.{find, ap, ◌∙◌}
use Rattle.slpf_rules.specs.Filed.{source_net, destination_net}
use Rattle.slpf_rules.specs.Verdicts.{verdict}
use Rattle.slpf_rules.specs.Deciding.{number_decides}
use Rattle.slpf_rules.specs.Picking.{picked, said_or_allowed, earlier}
use Rattle.slpf_rules.proofs.PickLemmas.{verdict_of_three}
use Rattle.slpf_rules.proofs.QuickDecides.{sources_cover, destinations_cover}
use Rattle.slpf_rules.proofs.table.Table.decide.Goals as goal

pub returns : goal.returns
returns c =
    let rules = c.self.inside.rules in
    let packet = c.args.packet.now in
    let moment = c.args.moment in
    let kept = c.self.invariant in
    let unfiled_is = c.picked-unfiled.ensures ∙ ap (picked rules) (c.first_of.ensures ∙ ap (λ ns. find (number_decides rules packet moment) ns) kept.indexed.unfiled) in
    let source_is = c.least-source.ensures source_net kept.indexed.sources kept.rising (sources_cover packet) in
    let destination_is = c.least-destination.ensures destination_net kept.indexed.destinations kept.rising (destinations_cover packet) in
    c.said_or_allowed.ensures
    ∙ ap said_or_allowed (c.earlier-2.ensures ∙ ap (earlier _) c.earlier.ensures)
    ∙ verdict_of_three rules packet moment _ _ _ kept.rising unfiled_is source_is destination_is
    ∙ ap (λ l. verdict l packet moment) c.self.view_is
