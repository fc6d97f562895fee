use Rattle.std.proofs.Common.{◌≡◌, ◌++◌, take, drop}
use Rattle.cacao_cond.specs.Reading.{digit_run, behind_digits}
use Rattle.cacao_cond.proofs.tokens.digits_len.Given as goal

-- the bytes so far are digits, and are counted
abbrev pub invariant-loop-byte : goal.invariant-loop-byte
invariant-loop-byte l = record {
  counted : l.len ≡ l.byte-index;
  run : digit_run l.text ≡ take l.len l.text ++ digit_run (drop l.len l.text);
  rest : behind_digits l.text ≡ behind_digits (drop l.len l.text);
}
