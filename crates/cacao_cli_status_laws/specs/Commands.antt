-- Scaffold: What the words of a command ask.
use Rattle.std.specs.Prelude.{Option}
use Rattle.cacao_cli_words.specs.declared.words.Command.{Command}
use Rattle.cacao_cli_words.specs.Commands.{request_by}
use Rattle.cacao_cli_ends.specs.Asked.{Asked, built}

abbrev pub asked_by : Command → Option Asked
asked_by command = built (request_by command)
