use Rattle.std.proofs.Common.{◌≡◌, map, take, Bor}
use Rattle.clap.specs.Words.{found_of, rows_of}
use Rattle.cacao_cli_words.specs.ClapRows.{found}
use Rattle.cacao_cli_words.specs.Commands.{maybe_text}
use Rattle.cacao_cli_words.specs.Found.{first_of}
use Rattle.cacao_cli_words.specs.Words.{Text}
use Rattle.cacao_cli_words.proofs.reading.values_of.Given as goal

abbrev pub invariant-loop-option : goal.invariant-loop-option
invariant-loop-option l = map maybe_text l.values.items ≡ map (λ (x : Bor Text). first_of (found x.now (rows_of (found_of l.matches)))) (take l.option-index l.options)
