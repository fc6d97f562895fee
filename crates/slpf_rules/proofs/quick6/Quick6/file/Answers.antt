use Rattle.std.proofs.Common.{◌≡◌, [], Some, filter, ap, subst, ◌∙◌}
use Rattle.slpf_rules.specs.declared.any_nets.AnyNet.TheVariants.{V4}
use Rattle.slpf_rules.specs.Filed.{is_net}
use Rattle.slpf_rules.proofs.QuickLemmas6.{IsAlone6-place}
use Rattle.slpf_rules.proofs.quick6.Quick6.file.Goals as goal

pub returns-in-V6 : goal.returns-in-V6
returns-in-V6 c = λ net_of rules is h rising none.
    c.file6.ensures net_of rules (is ∙ ap Some c.in-V6.is) h rising
    (λ alone. subst (λ net. filter (λ other. is_net net (net_of other.flow)) rules ≡ []) c.in-V6.is (none alone))

pub returns-in-V4 : goal.returns-in-V4
returns-in-V4 c = λ net_of rules is h rising none slot reads.
    IsAlone6-place net_of c.args.rule.now rules (V4 c.in-V4.field-0) c.args.self.now.since slot (is ∙ ap Some c.in-V4.is) tt (h slot reads)
