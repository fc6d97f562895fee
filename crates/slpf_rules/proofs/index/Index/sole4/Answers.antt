use Rattle.std.proofs.Common.{◌≡◌, min, get_or, sym, ap, subst, ◌∙◌, arith}
use Rattle.oc2_nets.specs.Nets.{net4}
use Rattle.slpf_rules.specs.declared.any_nets.AnyNet.TheVariants.{V4}
use Rattle.slpf_rules.specs.IndexEntries.{at}
use Rattle.slpf_rules.specs.Soles.{IsSole, sole_at}
use Rattle.slpf_rules.proofs.Counting.{at-none}
use Rattle.slpf_rules.proofs.index.Index.sole4.Goals as goal

pub returns-then-self-width-eq0 : goal.returns-then-self-width-eq0
returns-then-self-width-eq0 c =
    let net = V4 (net4 c.args.address c.args.width) in
    let width : min c.args.width 32 ≡ c.args.width = omega arith in
    let count = ap (λ k. get_or c.self.inside.widths.v4 k 0) width ∙ c.if-self-width-eq0.true in
    let none = at-none net c.self.inside.nets.entries (sym (c.self.invariant.counts net) ∙ count) in
    sym (ap (λ entries. at entries net) c.self.view_is) ∙ none

pub returns : goal.returns
returns c =
    let net = V4 (net4 c.args.address c.args.width) in
    let soles = c.self.inside.soles in
    let is = c.get.ensures ∙ ap (λ n. sole_at soles (V4 n)) c.new.ensures in
    subst (λ s. IsSole s (at c.args.self.now net)) (sym is)
    (subst (λ entries. IsSole (sole_at soles net) (at entries net)) c.self.view_is (c.self.invariant.soles net))
