use Rattle.std.proofs.Common.{◌≡◌, true, None, subst, ◌∙◌}
use Rattle.std.specs.Bool.{OnTrue}
use Rattle.slpf_rules.specs.IndexEntries.{at}
use Rattle.slpf_rules.proofs.Indexed.{IsIndexOf-place, none_filed}
use Rattle.slpf_rules.proofs.BlockLemmas.{AreUsed-put}
use Rattle.slpf_rules.proofs.SideLemmas.{IsSide-place_none}
use Rattle.slpf_rules.proofs.sides.Side.file.Goals as goal

pub returns-in-Ok-clause-ok : goal.returns-in-Ok-clause-ok
returns-in-Ok-clause-ok c = λ net_of rules is h rising free.
    let net = c.in-Some.net in
    let same = is ∙ c.in-Some.is in
    let none = λ (alone : c.in-Ok.alone ≡ true). none_filed net_of rules _ net h.indexed (subst (λ b. OnTrue b (at c.args.self.now.index net ≡ None)) alone c.in-Ok.ensures.alone) in
    record {
      indexed = IsIndexOf-place net_of c.args.rule.now rules _ _ net h.indexed same c.in-Ok.ensures.ok rising free;
      quick = c.file.ensures net_of rules same h.quick rising none;
      quick6 = c.file-in-Ok.ensures net_of rules same h.quick6 rising none;
      blocks = AreUsed-put _ _ _ _ net _ h.blocks c.in-Ok.ensures.ok c.note.ensures.noted c.note.ensures.kept;
      lists = c.file-in-Ok-2.ensures net_of rules same h.lists rising none;
    }

pub returns-in-Err-clause-err : goal.returns-in-Err-clause-err
returns-in-Err-clause-err c = λ net_of rules h. record {
  indexed = λ net. c.in-Err.ensures.err net ∙ h.indexed net;
  quick = h.quick;
  quick6 = h.quick6;
  blocks = λ net unused. c.in-Err.ensures.err net ∙ h.blocks net unused;
  lists = h.lists;
}

pub returns-in-None-clause-ok : goal.returns-in-None-clause-ok
returns-in-None-clause-ok c = λ net_of rules is h rising free.
    IsSide-place_none net_of c.args.rule.now rules _ h (is ∙ c.in-None.is)
