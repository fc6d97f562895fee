use Rattle.base_graphs.proofs.WordLemmas.{marks_nil}
use Rattle.base_graphs.proofs.bits.Bits.new.Goals as goal

pub returns : goal.returns
returns c = marks_nil c.new.result.items
