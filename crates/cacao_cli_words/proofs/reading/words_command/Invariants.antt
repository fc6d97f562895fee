use Rattle.std.proofs.Common.{◌≡◌, map, take, Bor}
use Rattle.clap.specs.Words.{app_of}
use Rattle.cacao_cli_words.specs.ClapCommand.{options_of}
use Rattle.cacao_cli_words.specs.Words.{Text}
use Rattle.cacao_cli_words.proofs.reading.words_command.Given as goal

abbrev pub invariant-loop-option : goal.invariant-loop-option
invariant-loop-option l = app_of l.command ≡ options_of (map (λ (x : Bor Text). x.now) (take l.option-index l.options))
