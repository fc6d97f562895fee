use Rattle.std.proofs.Common.{◌↔◌, subst, sym}
use Rattle.std.specs.List.{All, Contains}
use Rattle.std.specs.List.Sorted.{IsStrictlyIncreasing}
use Rattle.slpf_rules.specs.declared.rules.Rule.{Rule}
use Rattle.slpf_rules.proofs.Smallest.{EachRule}
use Rattle.slpf_shadow.specs.Listed.{shadowed_numbers, IsShadowed, IsLeastShadow}
use Rattle.slpf_shadow.specs.Ranges.{IsRule}
use Rattle.slpf_shadow.proofs.Listings.{listed_all, listed_exactly, listed_least, listed_rising}
use Rattle.slpf_shadow.proofs.listing.shadowed.Goals as goal

pub returns-clause-listed : goal.returns-clause-listed
returns-clause-listed c =
    let rules = c.args.table.now in
    let none = c.in-None.ensures.steps.0 in
    let ranges = c.loop-later.invariant.ranges (subst (EachRule IsRule) (sym none) tt) in
    subst (λ list. (later : Rule) → Contains rules later → (Contains (shadowed_numbers list) later.number ↔ IsShadowed rules later))
    (sym (listed_all rules c.loop-later.list c.loop-later.later-iterator none c.loop-later.invariant.listed))
    (λ later held. listed_exactly rules later ranges c.rules.ensures.rising held)

pub returns-clause-least : goal.returns-clause-least
returns-clause-least c =
    let rules = c.args.table.now in
    let none = c.in-None.ensures.steps.0 in
    let ranges = c.loop-later.invariant.ranges (subst (EachRule IsRule) (sym none) tt) in
    subst (λ list. All (IsLeastShadow rules) list)
    (sym (listed_all rules c.loop-later.list c.loop-later.later-iterator none c.loop-later.invariant.listed))
    (listed_least rules ranges)

pub returns-clause-rising : goal.returns-clause-rising
returns-clause-rising c =
    let rules = c.args.table.now in
    let none = c.in-None.ensures.steps.0 in
    subst (λ list. IsStrictlyIncreasing (shadowed_numbers list))
    (sym (listed_all rules c.loop-later.list c.loop-later.later-iterator none c.loop-later.invariant.listed))
    (listed_rising rules c.rules.ensures.rising)
