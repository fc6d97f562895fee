use Rattle.std.proofs.Common.{◌≡◌, ◌++◌, drop}
use Rattle.cacao_cond.specs.Grammar.{escaped}
use Rattle.cacao_cond.proofs.printing.print_escaped.Given as goal

-- what is written, and what is left to write
abbrev pub invariant-loop-byte : goal.invariant-loop-byte
invariant-loop-byte l = l.out.items ++ escaped (drop l.byte-index l.text) ≡ l.fn.out.items ++ escaped l.text
