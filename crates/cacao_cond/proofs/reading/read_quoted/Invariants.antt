use Rattle.std.proofs.Common.{◌≡◌, drop, false, option_map}
use Rattle.cacao_cond.specs.Reading.{quoted, with_front}
use Rattle.cacao_cond.proofs.reading.read_quoted.Given as goal

-- the characters so far, and what is left to read
abbrev pub invariant-loop-place : goal.invariant-loop-place
invariant-loop-place l = option_map (with_front l.word.items) (quoted l.is_escaped (drop l.place l.text)) ≡ quoted false l.text
