use Rattle.std.proofs.Common.{◌+◌, ◌/◌, arith}
use Rattle.base_graphs.proofs.WordLemmas.{marks_all}
use Rattle.base_graphs.proofs.bits.Bits.full.Goals as goal

pub returns : goal.returns
returns c = marks_all c.args.count (c.args.count / 64 + 1) c.in_ok-words.words.items c.in_ok-words.ensures (omega arith)
