use Rattle.std.proofs.Common.{Some, sym, ap, subst, ◌∙◌}
use Rattle.slpf_rules.specs.declared.any_nets.AnyNet.TheVariants.{V6, V4}
use Rattle.slpf_rules.specs.Rules.{without}
use Rattle.slpf_rules.specs.Quick6.{IsAlone6}
use Rattle.slpf_rules.proofs.QuickLemmas6.{IsAlone6-without}
use Rattle.slpf_rules.proofs.quick6.Quick6.unfile.Goals as goal

pub returns-in-V6 : goal.returns-in-V6
returns-in-V6 c = λ net_of rules rule is h rising held slot reads.
    subst (λ s. IsAlone6 net_of (without rule.number rules) s slot) (sym c.forget.ensures.since)
    (IsAlone6-without net_of rule rules (V6 c.in-V6.net) c.args.self.now.since slot (is ∙ ap Some c.in-V6.is) (c.forget.ensures.gone slot reads) rising held
    (h slot (c.forget.ensures.kept slot reads)))

pub returns-in-V4 : goal.returns-in-V4
returns-in-V4 c = λ net_of rules rule is h rising held slot reads.
    IsAlone6-without net_of rule rules (V4 c.in-V4.field-0) c.args.self.now.since slot (is ∙ ap Some c.in-V4.is) tt rising held (h slot reads)
