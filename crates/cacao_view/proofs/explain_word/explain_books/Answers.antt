-- Too many playbooks, or their files were read.
use Rattle.std.proofs.Common.{◌∙◌, ap, subst, refl, arith, List, ◌∷◌, length, map, string_bytes, Bor}
use Rattle.std.proofs.lemmas.List.{length-map}
use Rattle.cacao_cli_ends.specs.Told.{end_of}
use Rattle.cacao_cli_ends.specs.Files.{ShelfCall, shelf_call}
use Rattle.cacao_view_words.specs.Texts.{Text}
use Rattle.cacao_view.specs.Explaining.{ExplainsBooks, ExplainsTexts}
use Rattle.cacao_view.proofs.BookReadLemmas.{books-many, books-there, books-wanted}
use Rattle.cacao_view.proofs.explain_word.explain_books.Goals as goal

pub returns-then-libraries-most-clause-told : goal.returns-then-libraries-most-clause-told
returns-then-libraries-most-clause-told g c =
    let books : List Text = c.args.book.now ∷ map string_bytes c.args.libraries.now in
    let shelf : ShelfCall = record { told = g.L.Shelf.told c.args.shelf.now; before = g.L.Shelf.faults c.args.shelf.now; after = g.L.Shelf.faults c.args.shelf.now; reads_before = g.L.Shelf.reads c.args.shelf.now; reads_after = g.L.Shelf.reads c.args.shelf.now } in
    books-many ExplainsTexts books books shelf c.ending.result.lines (end_of c.ending.result.end)
    (omega (arith, c.most.ensures, length-map c.args.libraries.now string_bytes)) refl refl c.ending.ensures.lines c.ending.ensures.end

abbrev now_of : Bor Text → Text
now_of name = name.now

pub returns-in-Err-clause-told : goal.returns-in-Err-clause-told
returns-in-Err-clause-told g c =
    let books : List Text = c.args.book.now ∷ map string_bytes c.args.libraries.now in
    let shelf : ShelfCall = shelf_call (g.L.Shelf.told c.args.shelf.now) (g.L.Shelf.faults c.args.shelf.now) (g.L.Shelf.faults c.args.shelf.now) (g.L.Shelf.reads c.args.shelf.now) (g.L.Shelf.reads c.args.shelf.now) in
    books-wanted ExplainsTexts books c.args.book.now (map string_bytes c.args.libraries.now) shelf c.ending-in-Err.result.lines (end_of c.ending-in-Err.result.end)
    (omega (arith, c.most.ensures, length-map c.args.libraries.now string_bytes)) refl refl c.ending-in-Err.ensures.lines c.ending-in-Err.ensures.end

pub returns-in-Ok-clause-told : goal.returns-in-Ok-clause-told
returns-in-Ok-clause-told g c =
    let shelf : ShelfCall = shelf_call (g.L.Shelf.told c.args.shelf.now) (g.L.Shelf.faults c.args.shelf.now) (g.L.Shelf.faults c.explain_files.new.shelf) (g.L.Shelf.reads c.args.shelf.now) (g.L.Shelf.reads c.explain_files.new.shelf) in
    subst (λ (l : List Text). ExplainsBooks l shelf c.explain_files.result.lines (end_of c.explain_files.result.end)) (ap (map now_of) c.as_slice.ensures.value ∙ c.in-Ok.ensures) c.explain_files.ensures.told

pub returns-in-Ok-clause-untouched : goal.returns-in-Ok-clause-untouched
returns-in-Ok-clause-untouched g c none =
    absurd (books-there (c.args.book.now ∷ map string_bytes c.args.libraries.now) c.args.book.now (map string_bytes c.args.libraries.now) (omega (arith, c.most.ensures, length-map c.args.libraries.now string_bytes)) none)

pub explain_files-requires-clause-few : goal.explain_files-requires-clause-few
explain_files-requires-clause-few g c =
    omega (arith, c.most.ensures, ap length c.as_slice.ensures.value, ap length c.in-Ok.ensures, length-map c.in-Ok.names.items now_of, length-map c.args.libraries.now string_bytes)

pub explain_files-requires-clause-some : goal.explain_files-requires-clause-some
explain_files-requires-clause-some g c =
    omega (arith, ap length c.as_slice.ensures.value, ap length c.in-Ok.ensures, length-map c.in-Ok.names.items now_of, length-map c.args.libraries.now string_bytes)
