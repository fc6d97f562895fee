use Rattle.std.proofs.Common.{◌+◌, ◌/◌, arith}
use Rattle.base_graphs.proofs.WordLemmas.{marks_none}
use Rattle.base_graphs.proofs.bits.Bits.unmarked.Goals as goal

pub returns : goal.returns
returns c = marks_none c.args.count (c.args.count / 64 + 1) c.in_ok-words.words.items c.in_ok-words.ensures (omega arith)
