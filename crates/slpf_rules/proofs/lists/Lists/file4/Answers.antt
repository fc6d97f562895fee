use Rattle.std.proofs.Common.{◌≡◌, true, Some, nat_eq, option_map, refl, sym, ap, ◌∙◌}
use Rattle.std.specs.HashMap.{get}
use Rattle.slpf_rules.specs.declared.any_nets.AnyNet.TheVariants.{V4}
use Rattle.slpf_rules.specs.Filed.{is_net}
use Rattle.slpf_rules.specs.Rules.{place}
use Rattle.slpf_rules.specs.Soles.{key4}
use Rattle.slpf_rules.proofs.Indexed.{files}
use Rattle.slpf_rules.proofs.NumberTests.{eq_is}
use Rattle.slpf_rules.proofs.Rising.{filter-place_other}
use Rattle.slpf_rules.proofs.SoleLemmas.{same_keys}
use Rattle.slpf_rules.proofs.BriefLemmas.{AllListed-left, AllListed-put, AllListed-taken, AreBriefs-grown, left_by, put_by}
use Rattle.slpf_rules.proofs.lists.Lists.file4.Goals as goal

pub returns-in_default : goal.returns-in_default
returns-in_default c = λ net_of rules is h rising none.
    AllListed-left (λ found. found.items) net_of rules (place c.args.rule.now rules) (get nat_eq c.args.self.now.by_key) (get nat_eq c.take-before.new.self.by_key) c.args.net.now
    (left_by (get nat_eq c.args.self.now.by_key) (get nat_eq c.take-before.new.self.by_key) c.key4-key.result (key4 c.args.net.now) c.key4-key.ensures c.take-before.ensures.left)
    (λ b other. filter-place_other (files net_of (V4 b)) c.args.rule.now rules (ap (is_net (V4 b)) is ∙ other)) h

pub returns-in_default-with_brief : goal.returns-in_default-with_brief
returns-in_default-with_brief c = λ net_of rules is h rising none.
    AllListed-left (λ found. found.items) net_of rules (place c.args.rule.now rules) (get nat_eq c.args.self.now.by_key) (get nat_eq c.take-before.new.self.by_key) c.args.net.now
    (left_by (get nat_eq c.args.self.now.by_key) (get nat_eq c.take-before.new.self.by_key) c.key4-key.result (key4 c.args.net.now) c.key4-key.ensures c.take-before.ensures.left)
    (λ b other. filter-place_other (files net_of (V4 b)) c.args.rule.now rules (ap (is_net (V4 b)) is ∙ other)) h

pub returns : goal.returns
returns c = λ net_of rules is h rising none.
    let net = c.args.net.now in
    let rule = c.args.rule.now in
    let list = c.in-Some-with_brief.list in
    let old = get nat_eq c.args.self.now.by_key in
    let mid = get nat_eq c.take-before.new.self.by_key in
    let self : is_net (V4 net) (Some (V4 net)) ≡ true = same_keys net net ∙ eq_is (key4 net) (key4 net) refl in
    let told = AreBriefs-grown net_of rule rules net _ c.args.alone c.in-Some.brief list.items is rising c.in-Some.ensures none
    (AllListed-taken (λ found. found.items) net_of rules old c.key4-key.result net c.take-before.result c.take-before.ensures.taken c.key4-key.ensures h)
    c.in-Some-with_brief.ensures self in
    AllListed-put (λ found. found.items) net_of (place rule rules) mid (get nat_eq c.put.new.self.by_key) net list
    (put_by mid (get nat_eq c.put.new.self.by_key) c.key4-key.result (key4 net) list c.key4-key.ensures c.put.ensures) told
    (AllListed-left (λ found. found.items) net_of rules (place rule rules) old mid net
    (left_by old mid c.key4-key.result (key4 net) c.key4-key.ensures c.take-before.ensures.left)
    (λ b other. filter-place_other (files net_of (V4 b)) rule rules (ap (is_net (V4 b)) is ∙ other)) h)
