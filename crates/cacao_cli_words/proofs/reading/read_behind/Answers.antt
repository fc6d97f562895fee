-- What clap gives is what the words read as.
use Rattle.std.proofs.Common.{◌≡◌, ◌∙◌, refl, ap, List, [], ◌∷◌, Option, map, drop, string_bytes, Bor}
use Rattle.clap.specs.Walk.{Row}
use Rattle.clap.specs.Words.{found_of, rows_of}
use Rattle.cacao_cli_words.specs.ClapRows.{IsReadAs, found}
use Rattle.cacao_cli_words.specs.Commands.{maybe_text}
use Rattle.cacao_cli_words.specs.Found.{first_of}
use Rattle.cacao_cli_words.specs.Words.{Text}
use Rattle.cacao_cli_words.proofs.OptionLemmas.{parts-read}
use Rattle.cacao_cli_words.proofs.reading.read_behind.Goals as goal

map-now : (options : List (Bor Text)) (rows : List Row) → map (λ (x : Bor Text). first_of (found x.now rows)) options ≡ map (λ (x : Text). first_of (found x rows)) (map (λ (x : Bor Text). x.now) options)
map-now [] rows = refl
map-now (x ∷ options) rows = ap (λ (rest : List (Option Text)). first_of (found x.now rows) ∷ rest) (map-now options rows)

pub returns : goal.returns
returns c =
    let os : List Text = map (λ (x : Bor Text). x.now) c.args.options.now in
    let behind : List Text = drop 1 (map string_bytes c.args.words.now) in
    let read_so : IsReadAs os behind (rows_of (found_of c.in-Some.matches)) = rw c.in-Some.is at c.in_ok-matches.ensures in
    c.found_if_fit.ensures
    ∙ parts-read os behind (rows_of (found_of c.in-Some.matches)) (map maybe_text c.in_ok-values.values.items) (map (λ (name : Bor Text). name.now) c.in_ok-names.names.items) read_so
    (c.in_ok-values.ensures ∙ map-now c.args.options.now (rows_of (found_of c.in-Some.matches))) c.in_ok-names.ensures
