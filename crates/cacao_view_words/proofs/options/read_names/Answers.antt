-- Names alone stand behind `--`.
use Rattle.std.proofs.Common.{◌≡◌, ◌∙◌, ◌++◌, ◌<◌, List, Option, sym, ap, subst, arith, length, map, append_assoc, String, Global, string_bytes}
use Rattle.std.specs.Prelude.{option_and_then}
use Rattle.std.specs.List.{position_or_len}
use Rattle.cacao_cli_words.specs.Words.{Reading, begins_hyphen, if_fits}
use Rattle.cacao_view_words.specs.Asked.{maybe_text}
use Rattle.cacao_view_words.specs.Options.{reading}
use Rattle.cacao_view_words.specs.Requests.{Request, preflight_of}
use Rattle.cacao_view_words.specs.Texts.{Text}
use Rattle.cacao_view_words.proofs.OptionLemmas.{names-behind, options-behind}
use Rattle.cacao_view_words.proofs.options.read_names.Goals as goal

abbrev texts : List (String Global) → List Text
texts = map string_bytes

abbrev ask : Option Reading → Request
ask o = preflight_of (option_and_then if_fits o)

pub returns-then-count_names-words : goal.returns-then-count_names-words
returns-then-count_names-words c =
    sym (ap ask (options-behind string_bytes (maybe_text c.args.bind) (reading (maybe_text c.args.bind) (texts c.args.before.now ++ texts c.args.between.now)) c.args.words.now
    (subst (λ n. n < length c.args.words.now) c.count_names.ensures.value c.if-count_names-words.true)))

pub returns : goal.returns
returns c =
    let before : List Text = texts c.args.before.now in
    let between : List Text = texts c.args.between.now in
    let all : position_or_len (λ (word : String Global). begins_hyphen (string_bytes word)) c.args.words.now ≡ length c.args.words.now =
    omega (arith, c.count_names.ensures.value, c.count_names.ensures.within, c.if-count_names-words.false) in
    c.read_whole.ensures ∙ ap (λ (l : List Text). preflight_of (if_fits (reading (maybe_text c.args.bind) l))) (sym (append_assoc before between (texts c.args.words.now)))
    ∙ sym (ap ask (names-behind string_bytes (maybe_text c.args.bind) (before ++ between) c.args.words.now all))
