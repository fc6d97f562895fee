-- The first value that clap gives is that of the row.
use Rattle.std.proofs.Common.{◌∙◌, ap}
use Rattle.clap.specs.Words.{found_of}
use Rattle.clap.proofs.WalkLemmas.{raw_values-rows}
use Rattle.cacao_cli_words.specs.Found.{first_of}
use Rattle.cacao_cli_words.proofs.reading.value_of.Goals as goal

pub returns-in-Some : goal.returns-in-Some
returns-in-Some c = c.first_of.ensures ∙ ap first_of (c.in-Some.ensures ∙ raw_values-rows (found_of c.args.matches.now) c.args.option.now)

pub returns-in-None : goal.returns-in-None
returns-in-None c = ap first_of (c.in-None.ensures ∙ raw_values-rows (found_of c.args.matches.now) c.args.option.now)
