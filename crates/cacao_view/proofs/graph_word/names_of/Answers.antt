-- One name more.
use Rattle.std.proofs.Common.{◌≡◌, ◌∙◌, sym, ap, ℕ, Bor, List, [], ◌∷◌, ◌++◌, map, take, take_all, get_or, String, Global, string_bytes}
use Rattle.std.proofs.lemmas.List.{map-append}
use Rattle.cacao_cli_ends.proofs.ReadLemmas.{map-more}
use Rattle.cacao_view_words.specs.Texts.{Text}
use Rattle.cacao_view.proofs.graph_word.names_of.Goals as goal

abbrev now_of : Bor Text → Text
now_of name = name.now

pub loop-library-preserved : goal.loop-library-preserved
loop-library-preserved c =
    let libraries : List (String Global) = c.args.libraries.now in
    let i : ℕ = c.loop-library.library-index in
    let name_is : c.as_str.result.now ≡ string_bytes (get_or libraries i c.library-item.result) = c.as_str.ensures.value ∙ ap string_bytes c.library-item.is in
    ap (map now_of) c.in_ok-push-2.ensures.items ∙ map-append now_of c.loop-library.names.items (c.as_str.result ∷ [])
    ∙ ap (λ (l : List Text). l ++ c.as_str.result.now ∷ []) c.loop-library.invariant
    ∙ ap (λ (t : Text). c.args.book.now ∷ (map string_bytes (take i libraries) ++ t ∷ [])) name_is
    ∙ ap (λ (l : List Text). c.args.book.now ∷ l) (sym (map-more string_bytes libraries i c.library-item.result c.loop-library-test.true))

pub returns : goal.returns
returns c =
    let libraries : List (String Global) = c.args.libraries.now in
    c.loop-library.invariant ∙ ap (λ (l : List (String Global)). c.args.book.now ∷ map string_bytes l) (take_all c.loop-library.library-index libraries c.loop-library-test.false)
