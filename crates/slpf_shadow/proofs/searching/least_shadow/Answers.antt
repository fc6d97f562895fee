use Rattle.std.proofs.Common.{◌≡◌, false, find, option_map, subst, sym, ap, ap₂, ◌∙◌}
use Rattle.slpf_rules.specs.Order.{IsRising}
use Rattle.slpf_rules.specs.Filed.{source_net, destination_net, filed, unfiled}
use Rattle.slpf_rules.specs.Deciding.{sooner, smallest}
use Rattle.slpf_shadow.specs.Shapes.{source_of, destination_of}
use Rattle.slpf_shadow.specs.Tests.{never_decides, shadows}
use Rattle.slpf_shadow.specs.Searches.{number_shadows, shadows_round, least_shadow}
use Rattle.slpf_shadow.proofs.Leasts.{least_of_three, first_is_least}
use Rattle.slpf_shadow.proofs.searching.least_shadow.Goals as goal

pub returns-then-never_decides-clause-value : goal.returns-then-never_decides-clause-value
returns-then-never_decides-clause-value c =
    let later = c.args.later.now in
    c.first_rule.ensures
    ∙ ap (λ rules. option_map (λ rule. rule.number) (find (λ earlier. shadows earlier later) rules)) c.rules.ensures.value
    ∙ first_is_least c.args.table.now later c.rules.ensures.rising

pub returns-clause-value : goal.returns-clause-value
returns-clause-value c =
    let later = c.args.later.now in
    let rules = c.rules.result.now in
    let same = c.rules.ensures.value in
    let rising = subst IsRising (sym same) c.rules.ensures.rising in
    let sometimes : never_decides later ≡ false = sym c.never_decides.ensures.value ∙ c.if-never_decides.false in
    let unfiled_is = c.lesser_of-unfiled.ensures ∙ ap (λ ns. find (number_shadows rules later) ns) (c.unfiled.ensures ∙ ap unfiled (sym same)) in
    let source_is = c.lesser_round-source.ensures source_net (λ net. c.by_source.ensures net ∙ ap (λ l. filed source_net l net) (sym same)) rising in
    let destination_is = c.lesser_round.ensures destination_net (λ net. c.by_destination.ensures net ∙ ap (λ l. filed destination_net l net) (sym same)) rising in
    let source_net_is = c.source.ensures ∙ ap source_of c.of-shape.ensures.value in
    let destination_net_is = c.destination.ensures ∙ ap destination_of c.of-shape.ensures.value in
    destination_is
    ∙ ap₂ (λ o net. sooner o (smallest (shadows_round destination_net net later) rules))
    (source_is ∙ ap₂ (λ o net. sooner o (smallest (shadows_round source_net net later) rules)) unfiled_is source_net_is) destination_net_is
    ∙ least_of_three rules later rising sometimes
    ∙ ap (λ l. least_shadow l later) same
