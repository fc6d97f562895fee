use Rattle.std.proofs.Common.{[], ap}
use Rattle.slpf_rules.specs.IndexEntries.{at}
use Rattle.slpf_rules.proofs.BriefLemmas.{AllListed-none}
use Rattle.slpf_rules.proofs.sides.Side.new.Goals as goal

pub returns : goal.returns
returns c = λ net_of. record {
  indexed = λ net. ap (λ entries. at entries net) c.new.ensures;
  quick = λ slot reads. absurd (c.new-2.ensures slot reads);
  quick6 = λ slot reads. absurd (c.new-3.ensures slot reads);
  blocks = λ net unused. ap (λ entries. at entries net) c.new.ensures;
  lists = AllListed-none _ net_of [] _ c.new-5.ensures;
}
