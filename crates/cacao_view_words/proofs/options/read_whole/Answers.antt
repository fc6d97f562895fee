-- All fit, and there is a name.
use Rattle.std.proofs.Common.{rules, ◌≡◌, ◌∙◌, ◌++◌, ◌<◌, ◌&&◌, [], List, true, ap, arith, length, map, String, Global, string_bytes, length-append}
use Rattle.std.proofs.lemmas.List.{length-map}
use Rattle.std.specs.List.{list_all}
use Rattle.cacao_cli_words.specs.Words.{fits}
use Rattle.cacao_view_words.specs.Asked.{maybe_text}
use Rattle.cacao_view_words.specs.Options.{reading}
use Rattle.cacao_view_words.specs.Requests.{preflights}
use Rattle.cacao_view_words.specs.Texts.{Text}
use Rattle.cacao_view_words.proofs.OptionLemmas.{whole-some}
use Rattle.cacao_view_words.proofs.options.read_whole.Goals as goal

abbrev texts : List (String Global) → List Text
texts = map string_bytes

pub returns : goal.returns
returns c =
    let before : List Text = texts c.args.before.now in
    let between : List Text = texts c.args.between.now in
    let behind : List Text = texts c.args.behind.now in
    let fit : (list_all fits (before ++ (between ++ behind)) && list_all (λ p. fits p.1) (reading (maybe_text c.args.bind) []).options) ≡ true = search rules in
    let some : 0 < length (before ++ (between ++ behind)) =
    omega (arith, c.if-count-eq0.false, length-append before (between ++ behind), length-append between behind, length-map c.args.before.now string_bytes, length-map c.args.between.now string_bytes, length-map c.args.behind.now string_bytes) in
    ap (preflights (maybe_text c.args.bind)) c.new-books.ensures ∙ whole-some (maybe_text c.args.bind) (before ++ (between ++ behind)) fit some
