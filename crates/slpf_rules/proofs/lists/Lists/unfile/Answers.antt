use Rattle.std.proofs.Common.{◌≡◌, Some, nat_eq, ap, subst, ◌∙◌}
use Rattle.std.specs.HashMap.{get}
use Rattle.slpf_rules.specs.declared.any_nets.AnyNet.TheVariants.{V4}
use Rattle.slpf_rules.specs.Filed.{is_net}
use Rattle.slpf_rules.specs.Soles.{key4}
use Rattle.slpf_rules.specs.Rules.{without}
use Rattle.slpf_rules.proofs.Indexed.{files, filter-without_other}
use Rattle.slpf_rules.proofs.BriefLemmas.{AllListed-same, AllListed-left, left_by}
use Rattle.slpf_rules.proofs.lists.Lists.unfile.Goals as goal

pub returns-in-V4 : goal.returns-in-V4
returns-in-V4 c = λ net_of rules rule is h rising held.
    AllListed-left (λ found. found.items) net_of rules (without rule.number rules) (get nat_eq c.args.self.now.by_key) (get nat_eq c.take.new.self.by_key) c.in-V4.net
    (left_by (get nat_eq c.args.self.now.by_key) (get nat_eq c.take.new.self.by_key) c.key4.result (key4 c.in-V4.net) c.key4.ensures c.take.ensures.left)
    (λ b other. filter-without_other (files net_of (V4 b)) rule.number rule rules rising held (ap (is_net (V4 b)) (is ∙ ap Some c.in-V4.is) ∙ other)) h

pub returns-in-V6 : goal.returns-in-V6
returns-in-V6 c = λ net_of rules rule is h rising held.
    AllListed-same (λ found. found.items) net_of rules (without rule.number rules) (get nat_eq c.args.self.now.by_key)
    (λ b. filter-without_other (files net_of (V4 b)) rule.number rule rules rising held (ap (is_net (V4 b)) (is ∙ ap Some c.in-V6.is))) h
