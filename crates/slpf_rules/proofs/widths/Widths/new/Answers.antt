use Rattle.slpf_rules.specs.declared.any_nets.AnyNet.TheVariants.{V4, V6}
use Rattle.slpf_rules.proofs.widths.Widths.new.Goals as goal

pub returns : goal.returns
returns c (V4 net) = c.zeros4.ensures net.width
returns c (V6 net) = c.zeros6.ensures net.width
