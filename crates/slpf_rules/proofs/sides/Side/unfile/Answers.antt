use Rattle.std.proofs.Common.{◌∙◌}
use Rattle.slpf_rules.proofs.Indexed.{IsIndexOf-without}
use Rattle.slpf_rules.proofs.BlockLemmas.{AreUsed-take}
use Rattle.slpf_rules.proofs.SideLemmas.{IsSide-without_none}
use Rattle.slpf_rules.proofs.sides.Side.unfile.Goals as goal

pub returns-in-Some : goal.returns-in-Some
returns-in-Some c = λ net_of rules is h rising held.
    let same = is ∙ c.in-Some.is in
    record {
      indexed = IsIndexOf-without net_of c.args.rule.now rules _ _ c.in-Some.net h.indexed same c.remove.ensures rising held;
      quick = c.unfile.ensures net_of rules c.args.rule.now same h.quick rising held;
      quick6 = c.unfile-in-Some.ensures net_of rules c.args.rule.now same h.quick6 rising held;
      blocks = AreUsed-take _ _ _ c.in-Some.net _ h.blocks c.remove.ensures;
      lists = c.unfile-in-Some-2.ensures net_of rules c.args.rule.now same h.lists rising held;
    }

pub returns-in-None : goal.returns-in-None
returns-in-None c = λ net_of rules is h rising held.
    IsSide-without_none net_of c.args.rule.now rules _ h (is ∙ c.in-None.is) rising held
