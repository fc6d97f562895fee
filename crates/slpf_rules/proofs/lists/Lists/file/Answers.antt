use Rattle.std.proofs.Common.{◌≡◌, [], true, Some, nat_eq, filter, ap, subst, ◌∙◌}
use Rattle.std.specs.Bool.{OnTrue}
use Rattle.std.specs.HashMap.{get}
use Rattle.slpf_rules.specs.declared.any_nets.AnyNet.TheVariants.{V4}
use Rattle.slpf_rules.specs.Filed.{is_net}
use Rattle.slpf_rules.specs.Rules.{place}
use Rattle.slpf_rules.proofs.Indexed.{files}
use Rattle.slpf_rules.proofs.Rising.{filter-place_other}
use Rattle.slpf_rules.proofs.BriefLemmas.{AllListed-same}
use Rattle.slpf_rules.proofs.lists.Lists.file.Goals as goal

pub returns-in-V4 : goal.returns-in-V4
returns-in-V4 c = λ net_of rules is h rising none.
    c.file4.ensures net_of rules (is ∙ ap Some c.in-V4.is) h rising
    (λ starts. subst (λ net. filter (λ other. is_net net (net_of other.flow)) rules ≡ []) c.in-V4.is (none (subst (λ b. OnTrue b (c.args.alone ≡ true)) starts c.begins.ensures)))

pub returns-in-V6 : goal.returns-in-V6
returns-in-V6 c = λ net_of rules is h rising none.
    AllListed-same (λ found. found.items) net_of rules (place c.args.rule.now rules) (get nat_eq c.args.self.now.by_key)
    (λ b. filter-place_other (files net_of (V4 b)) c.args.rule.now rules (ap (is_net (V4 b)) (is ∙ ap Some c.in-V6.is))) h
