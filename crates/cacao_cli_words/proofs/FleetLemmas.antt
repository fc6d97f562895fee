-- What `fleet` asks for, by the value of its one option and the names.
use Rattle.std.proofs.Common.{◌≡◌, ◌∙◌, ◌<◌, ◌≤◌, refl, ap, arith, Bor, List, [], ◌∷◌, length, map, get_or, Option}
use Rattle.cacao_cli_words.specs.Commands.{maybe_text}
use Rattle.cacao_cli_words.specs.Parts.{fleet_by_values}
use Rattle.cacao_cli_words.specs.Requests.{fleet_from}
use Rattle.cacao_cli_words.specs.Words.{Text}
use Rattle.cacao_cli_words.proofs.PairLemmas.{texts}

one : (values : List (Option (Bor Text))) (d : Option (Bor Text)) (names : List Text) → 1 ≤ length values → length values < 2 → fleet_from (maybe_text (get_or values 0 d)) names ≡ fleet_by_values (map maybe_text values) names
one [] d names le lt = absurd (omega (arith, le))
one (value ∷ []) d names le lt = refl
one (value ∷ other ∷ values) d names le lt = absurd (omega (arith, lt))

pub by-one : (slice values : List (Option (Bor Text))) (d : Option (Bor Text)) (names list : List (Bor Text)) → slice ≡ values → names ≡ list → 1 ≤ length slice → length slice < 2
    → fleet_from (maybe_text (get_or slice 0 d)) (texts names) ≡ fleet_by_values (map maybe_text values) (texts list)
by-one slice values d names list is are le lt =
    one slice d (texts names) le lt ∙ ap (λ (l : List (Option (Bor Text))). fleet_by_values (map maybe_text l) (texts names)) is
    ∙ ap (λ (l : List (Bor Text)). fleet_by_values (map maybe_text values) (texts l)) are
