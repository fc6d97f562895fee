-- The name of bindings stands behind those of playbooks.
use Rattle.std.proofs.Common.{◌∙◌, sym, ap, Bor, List, [], ◌∷◌, ◌++◌, append-nil, map, Option}
use Rattle.std.proofs.lemmas.List.{map-append}
use Rattle.cacao_view_words.specs.Asked.{book_names, maybe_text}
use Rattle.cacao_view_words.specs.Texts.{Text}
use Rattle.cacao_view.specs.Flying.{bound_names}
use Rattle.cacao_view.proofs.preflight_word.names_with.Goals as goal

abbrev now_of : Bor Text → Text
now_of name = name.now

pub returns-in-None : goal.returns-in-None
returns-in-None c =
    let books : List Text = book_names c.args.books in
    c.in_ok-names.ensures ∙ sym (append-nil books) ∙ ap (λ (e : Option (Bor Text)). bound_names (maybe_text e) books) (sym c.in-None.is)

pub returns-in_ok-push-in-Some : goal.returns-in_ok-push-in-Some
returns-in_ok-push-in-Some c =
    let books : List Text = book_names c.args.books in
    ap (map now_of) c.in_ok-push-in-Some.ensures.items ∙ map-append now_of c.in_ok-names.names.items (c.in-Some.name ∷ [])
    ∙ ap (λ (l : List Text). l ++ c.in-Some.name.now ∷ []) c.in_ok-names.ensures
    ∙ ap (λ (e : Option (Bor Text)). bound_names (maybe_text e) books) (sym c.in-Some.is)
