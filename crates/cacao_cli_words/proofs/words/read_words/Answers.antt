-- The first word is `run`, or it is not.
use Rattle.std.proofs.Common.{◌≡◌, ◌∙◌, sym, ap, subst, false, List, [], ◌∷◌, map, drop, String, Global, Option, Some, codes, string_bytes, Bor, IfOk}
use Rattle.std.specs.Prelude.{option_map, option_and_then, slice_get}
use Rattle.std.specs.Str.{bytes_eq}
use Rattle.cacao_cli_words.specs.Commands.{request_by}
use Rattle.cacao_cli_words.specs.Parts.{names_asks}
use Rattle.cacao_cli_words.specs.Requests.{Request, request}
use Rattle.cacao_cli_words.specs.Words.{Text, Reading, read}
use Rattle.cacao_cli_words.proofs.RequestLemmas.{request-names}
use Rattle.cacao_cli_words.proofs.words.read_words.Goals as goal

-- the words behind a first one that is not `run`
asked-names : (words : List (String Global)) (first : String Global) (names : List Text) → Some first ≡ slice_get words 0 → bytes_eq (string_bytes first) (codes "run") ≡ false
    → Some names ≡ option_map (λ (r : Reading). r.names) (read [] (drop 1 (map string_bytes words))) → names_asks (string_bytes first) names ≡ request (map string_bytes words)
asked-names [] first names here other named = absurd (cc)
asked-names (word ∷ words) first names here other named =
    let is : first ≡ word = cc in
    ap (λ o. option_and_then (names_asks (string_bytes first)) o) named ∙ request-names (string_bytes first) (map string_bytes words) other ∙ ap (λ (w : String Global). request (string_bytes w ∷ map string_bytes words)) is

pub returns-in-Some-3 : goal.returns-in-Some-3
returns-in-Some-3 c =
    subst (λ (r : Option Request). IfOk c.names_asked.result (λ o. option_map request_by o ≡ r))
    (ap (λ (w : Text). names_asks w (map (λ (name : Bor Text). name.now) c.in-Some-3.names.items)) c.as_str-first.ensures.value
    ∙ asked-names c.args.words.now c.in-Some.first.now (map (λ (name : Bor Text). name.now) c.in-Some-3.names.items) c.in-Some.ensures.value
    (ap (λ (w : Text). bytes_eq w (codes "run")) (sym c.as_str-first.ensures.value) ∙ sym c.eq.ensures ∙ c.if-eq.false) (ap (option_map (λ names. map (λ (name : Bor Text). name.now) names.items)) (sym c.in-Some-3.is) ∙ c.in_ok-names.ensures))
    c.names_asked.ensures
