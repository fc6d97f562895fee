use Rattle.std.proofs.Common.{◌≡◌, map, drop, false, string_bytes}
use Rattle.cacao_cli_words.specs.Hyphens.{passes}
use Rattle.cacao_cli_words.proofs.reading.pass.Given as goal

abbrev pub invariant-loop-word : goal.invariant-loop-word
invariant-loop-word l = passes false (map string_bytes l.words) ≡ passes l.ended (map string_bytes (drop l.word-index l.words))
