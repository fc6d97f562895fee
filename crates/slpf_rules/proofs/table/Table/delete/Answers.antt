use Rattle.std.proofs.Common.{◌≡◌, ◌==◌, Some, is_some, sym, ap, subst, ◌∙◌, arith}
use Rattle.slpf_rules.specs.Rules.{rule_at, is_held, without}
use Rattle.slpf_rules.specs.Filing.{IsFiling}
use Rattle.slpf_rules.specs.TableFacts.{IsTable}
use Rattle.slpf_rules.proofs.NumberTests.{is_some-find, filter_all}
use Rattle.slpf_rules.proofs.Rising.{IsRising-filter, length-without, found_number}
use Rattle.slpf_rules.proofs.table.Table.delete.Goals as goal

pub returns-in_default-clause-value : goal.returns-in_default-clause-value
returns-in_default-clause-value c =
    ap is_some c.in_default.ensures ∙ is_some-find (λ rule. rule.number == c.args.number) c.self.inside.rules
    ∙ ap (is_held c.args.number) c.self.view_is

pub returns-in_default-clause-rules : goal.returns-in_default-clause-rules
returns-in_default-clause-rules c =
    sym (filter_all (λ rule. rule.number == c.args.number) c.args.self.now (sym (returns-in_default-clause-value c)))

pub invariant_of-self : goal.invariant_of-self
invariant_of-self c =
    let n = c.args.number in
    let rules = c.self.inside.rules in
    let rule = c.in-Some.rule.now in
    let kept = c.self.invariant in
    let found = sym c.in-Some.ensures in
    let same = found_number n rules rule found in
    let held = subst (λ k. rule_at k rules ≡ Some rule) (sym same) found in
    subst (λ l. IsTable l c.unfile.new.self) (sym c.remove.ensures)
    (record {
      indexed = subst (λ k. IsFiling (without k rules) c.unfile.new.self) same (c.unfile.ensures rules kept.indexed kept.rising held);
      rising = IsRising-filter _ rules kept.rising;
      few = omega (arith, length-without n rules, kept.few);
    })

pub returns-clause-value : goal.returns-clause-value
returns-clause-value c =
    ap is_some c.in-Some.ensures ∙ is_some-find (λ rule. rule.number == c.args.number) c.self.inside.rules
    ∙ ap (is_held c.args.number) c.self.view_is
