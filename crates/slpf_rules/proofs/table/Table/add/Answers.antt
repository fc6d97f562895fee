use Rattle.std.proofs.Common.{◌<◌, length, sym, ap, subst, ◌∙◌, arith}
use Rattle.slpf_rules.specs.Rules.{is_held, place}
use Rattle.slpf_rules.specs.Filing.{IsFiling}
use Rattle.slpf_rules.specs.TableFacts.{IsTable}
use Rattle.slpf_rules.proofs.Rising.{IsRising-place, rule_at-place, without-place, length-place}
use Rattle.slpf_rules.proofs.table.Table.add.Goals as goal

pub invariant_of-self : goal.invariant_of-self
invariant_of-self c =
    let free = ap (is_held c.args.rule.number) c.self.view_is ∙ c.requires.free in
    let kept = c.self.invariant in
    record {
      indexed = c.in_err-file.ensures.err c.self.inside.rules kept.indexed kept.rising free;
      rising = kept.rising;
      few = kept.few;
    }

pub invariant_of-self-in-Ok : goal.invariant_of-self-in-Ok
invariant_of-self-in-Ok c =
    let rules = c.self.inside.rules in
    let free = ap (is_held c.args.rule.number) c.self.view_is ∙ c.requires.free in
    let kept = c.self.invariant in
    let room : length rules < 65_536 = omega (arith, ap length c.self.view_is) in
    subst (λ l. IsTable l c.file.new.self) (sym c.in-Ok.ensures.ok)
    (record {
      indexed = c.in_ok-file.ensures.ok rules kept.indexed kept.rising free;
      rising = IsRising-place c.args.rule rules kept.rising free;
      few = omega (arith, length-place c.args.rule rules, room);
    })

pub invariant_of-self-in-Err : goal.invariant_of-self-in-Err
invariant_of-self-in-Err c =
    let rule = c.args.rule in
    let rules = c.self.inside.rules in
    let free = ap (is_held c.args.rule.number) c.self.view_is ∙ c.requires.free in
    let kept = c.self.invariant in
    let filed = c.in_ok-file.ensures.ok rules kept.indexed kept.rising free in
    let undone = c.unfile.ensures (place rule rules) filed (IsRising-place rule rules kept.rising free) (rule_at-place rule rules free) in
    subst (λ l. IsTable l c.unfile.new.self) (sym c.in-Err.ensures.err)
    (record {
      indexed = subst (λ l. IsFiling l c.unfile.new.self) (without-place rule rules free) undone;
      rising = kept.rising;
      few = kept.few;
    })
