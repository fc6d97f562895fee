use Rattle.slpf_rules.specs.Filed.{source_net, destination_net}
use Rattle.slpf_rules.proofs.filing.Filing.new.Goals as goal

pub returns : goal.returns
returns c = record {
  sources = c.new.ensures source_net;
  destinations = c.new-2.ensures destination_net;
  unfiled = c.new-3.ensures;
}
