-- The names that clap gives are those of the row.
use Rattle.std.proofs.Common.{◌∙◌, ap, [], Bor, map}
use Rattle.std.specs.Prelude.{unwrap_or}
use Rattle.clap.specs.Words.{found_of}
use Rattle.clap.proofs.WalkLemmas.{raw_values-rows}
use Rattle.cacao_cli_words.specs.ClapCommand.{names_id}
use Rattle.cacao_cli_words.specs.Words.{Text}
use Rattle.cacao_cli_words.proofs.reading.names_of.Goals as goal

pub returns-in_ok-from_slice-in-Some : goal.returns-in_ok-from_slice-in-Some
returns-in_ok-from_slice-in-Some c = ap (map (λ (name : Bor Text). name.now)) c.in_ok-from_slice-in-Some.ensures.items
    ∙ ap (λ o. unwrap_or o []) (c.in-Some.ensures ∙ raw_values-rows (found_of c.args.matches.now) names_id)

pub returns-in-None : goal.returns-in-None
returns-in-None c = ap (map (λ (name : Bor Text). name.now)) c.new.ensures.items
    ∙ ap (λ o. unwrap_or o []) (c.in-None.ensures ∙ raw_values-rows (found_of c.args.matches.now) names_id)
