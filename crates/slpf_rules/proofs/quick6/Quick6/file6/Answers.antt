use Rattle.std.proofs.Common.{◌≤◌, inl, inr, sym, subst, ◌∙◌, arith}
use Rattle.slpf_rules.specs.declared.any_nets.AnyNet.TheVariants.{V6}
use Rattle.slpf_rules.specs.Rules.{place}
use Rattle.slpf_rules.specs.Quick6.{IsAlone6}
use Rattle.slpf_rules.proofs.QuickLemmas6.{IsAlone6-place, IsAlone6-later, IsAlone6-put}
use Rattle.slpf_rules.proofs.QuickLemmas.{lasting_from}
use Rattle.slpf_rules.proofs.quick6.Quick6.file6.Goals as goal

pub returns-then-not-alone : goal.returns-then-not-alone
returns-then-not-alone c = λ net_of rules is h rising none slot reads.
    subst (λ s. IsAlone6 net_of (place c.args.rule.now rules) s slot) (sym c.forget.ensures.since)
    (IsAlone6-place net_of c.args.rule.now rules (V6 c.args.net.now) c.args.self.now.since slot is (c.forget.ensures.gone slot reads)
    (h slot (c.forget.ensures.kept slot reads)))

pub returns-then-not-is_lasting : goal.returns-then-not-is_lasting
returns-then-not-is_lasting c = λ net_of rules is h rising none slot reads.
    subst (λ s. IsAlone6 net_of (place c.args.rule.now rules) s slot) (sym c.forget.ensures.since)
    (IsAlone6-place net_of c.args.rule.now rules (V6 c.args.net.now) c.args.self.now.since slot is (c.forget.ensures.gone slot reads)
    (h slot (c.forget.ensures.kept slot reads)))

pub returns : goal.returns
returns c = λ net_of rules is h rising none slot reads.
    let rule = c.args.rule.now in
    let before = c.args.self.now.since in
    let later = c.put.new.self.since in
    let up : before ≤ later = omega (arith, c.forget.ensures.since, c.make_room.ensures.since, c.put.ensures.since, c.max-self.ensures) in
    let begun : rule.start ≤ later = omega (arith, c.put.ensures.since, c.max-self.ensures) in
    elim (c.put.ensures.added slot reads) [
      | inl stood ↦
          let here = c.make_room.ensures.kept slot stood in
          IsAlone6-later net_of (place rule rules) before later slot up
          (IsAlone6-place net_of rule rules (V6 c.args.net.now) before slot is (c.forget.ensures.gone slot here) (h slot (c.forget.ensures.kept slot here)))
      | inr same ↦
          subst (IsAlone6 net_of (place rule rules) later) (sym (same ∙ c.of.ensures))
          (IsAlone6-put net_of rule rules c.args.net.now later is rising (none c.if-not-alone.false)
          (lasting_from c.args.moment later rule (sym c.if-not-is_lasting.ensures) begun))
    ]
