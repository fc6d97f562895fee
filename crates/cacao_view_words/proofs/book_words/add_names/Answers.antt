-- One name more.
use Rattle.std.proofs.Common.{◌≡◌, ◌∙◌, sym, ap, ℕ, Bor, List, [], ◌∷◌, ◌++◌, append-nil, append_assoc, map, take, take_all, get_or, String, Global, string_bytes}
use Rattle.std.proofs.lemmas.List.{map-append}
use Rattle.cacao_view_words.specs.Texts.{Text}
use Rattle.cacao_view_words.proofs.OptionLemmas.{map-more}
use Rattle.cacao_view_words.proofs.book_words.add_names.Goals as goal

abbrev now_of : Bor Text → Text
now_of name = name.now

pub loop-word-init : goal.loop-word-init
loop-word-init c = sym (append-nil (map now_of c.args.names.now.items))

pub loop-word-preserved : goal.loop-word-preserved
loop-word-preserved c =
    let words : List (String Global) = c.args.words.now in
    let old : List Text = map now_of c.args.names.now.items in
    let i : ℕ = c.loop-word.word-index in
    let name_is : c.as_str.result.now ≡ string_bytes (get_or words i c.word-item.result) = c.as_str.ensures.value ∙ ap string_bytes c.word-item.is in
    ap (map now_of) c.in_ok-push.ensures.items ∙ map-append now_of c.loop-word.names.items (c.as_str.result ∷ [])
    ∙ ap (λ (l : List Text). l ++ c.as_str.result.now ∷ []) c.loop-word.invariant
    ∙ append_assoc old (map string_bytes (take i words)) (c.as_str.result.now ∷ [])
    ∙ ap (λ (t : Text). old ++ (map string_bytes (take i words) ++ t ∷ [])) name_is
    ∙ ap (λ (l : List Text). old ++ l) (sym (map-more string_bytes words i c.word-item.result c.loop-word-test.true))

pub returns : goal.returns
returns c = c.loop-word.invariant ∙ ap (λ (l : List (String Global)). map now_of c.args.names.now.items ++ map string_bytes l) (take_all c.loop-word.word-index c.args.words.now c.loop-word-test.false)
