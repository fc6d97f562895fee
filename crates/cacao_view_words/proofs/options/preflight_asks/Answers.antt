-- All words are names, or those before the first that begins with a hyphen.
use Rattle.std.proofs.Common.{◌∙◌, ◌∷◌, [], List, Option, None, sym, ap, map, take, append-nil, String, Global, string_bytes}
use Rattle.std.specs.Prelude.{option_and_then}
use Rattle.cacao_cli_words.specs.Words.{Reading, before_dashes, begins_hyphen, if_fits}
use Rattle.cacao_view_words.specs.Options.{asks_from, reading}
use Rattle.cacao_view_words.specs.Requests.{Request, preflight_of}
use Rattle.cacao_view_words.specs.Texts.{Text}
use Rattle.cacao_view_words.proofs.OptionLemmas.{first-hyphen, walk-none, walk-some}
use Rattle.cacao_view_words.proofs.options.preflight_asks.Goals as goal

abbrev texts : List (String Global) → List Text
texts = map string_bytes

abbrev ask : Option Reading → Request
ask o = preflight_of (option_and_then if_fits o)

pub read_option-requires : goal.read_option-requires
read_option-requires c =
    ap begins_hyphen c.as_str.ensures.value
    ∙ first-hyphen string_bytes None [] c.args.words.now c.in-Some.place c.index-words-place.result c.in-Some.ensures.value c.in-Some.ensures.within c.index-words-place.is

pub returns-in-None : goal.returns-in-None
returns-in-None c =
    c.read_whole.ensures ∙ ap (λ (l : List Text). preflight_of (if_fits (reading None l))) (append-nil (texts c.args.words.now))
    ∙ sym (ap ask (walk-none string_bytes None [] c.args.words.now c.in-None.ensures.value))

pub returns-in-Some : goal.returns-in-Some
returns-in-Some c =
    let front : List (String Global) = c.words_before-before.result.now in
    let back : List (String Global) = c.words_behind-behind.result.now in
    c.read_option.ensures ∙ ap (λ (t : Text). asks_from (reading None (texts front)) before_dashes (t ∷ texts back)) c.as_str.ensures.value
    ∙ ap (λ (l : List (String Global)). asks_from (reading None (texts l)) before_dashes (string_bytes c.index-words-place.result ∷ texts back)) c.words_before-before.ensures
    ∙ ap (λ (l : List (String Global)). asks_from (reading None (texts (take c.in-Some.place c.args.words.now))) before_dashes (string_bytes c.index-words-place.result ∷ texts l)) c.words_behind-behind.ensures
    ∙ sym (ap ask (walk-some string_bytes None [] c.args.words.now c.in-Some.place c.index-words-place.result c.in-Some.ensures.value c.in-Some.ensures.within c.index-words-place.is))
