use Rattle.std.proofs.Common.{◌≡◌, min, get_or, sym, ap, ◌∙◌, arith}
use Rattle.oc2_nets.specs.Nets.{net6}
use Rattle.slpf_rules.specs.declared.any_nets.AnyNet.TheVariants.{V6}
use Rattle.slpf_rules.specs.IndexEntries.{at}
use Rattle.slpf_rules.proofs.Counting.{at-none}
use Rattle.slpf_rules.proofs.index.Index.has6.Goals as goal

pub returns-then-self-width-eq0 : goal.returns-then-self-width-eq0
returns-then-self-width-eq0 c = λ address.
    let net = V6 (net6 address c.args.width) in
    let width : min c.args.width 128 ≡ c.args.width = omega arith in
    let count = ap (λ k. get_or c.self.inside.widths.v6 k 0) width ∙ c.if-self-width-eq0.true in
    let none = at-none net c.self.inside.nets.entries (sym (c.self.invariant.counts net) ∙ count) in
    sym (ap (λ entries. at entries net) c.self.view_is) ∙ none
