-- Too many playbooks, or their files were read.
use Rattle.std.proofs.Common.{◌∙◌, ap, subst, refl, arith, List, ◌∷◌, length, map, string_bytes, Bor}
use Rattle.std.proofs.lemmas.List.{length-map}
use Rattle.cacao_cli_ends.specs.Told.{end_of}
use Rattle.cacao_cli_ends.specs.Files.{ShelfCall, shelf_call}
use Rattle.cacao_view_words.specs.Texts.{Text}
use Rattle.cacao_view.specs.Drawing.{Draws, DrawsTexts}
use Rattle.cacao_view.proofs.BookReadLemmas.{books-many, books-there, books-wanted}
use Rattle.cacao_view.proofs.graph_word.graph.Goals as goal

pub returns-then-libraries-most-clause-draws : goal.returns-then-libraries-most-clause-draws
returns-then-libraries-most-clause-draws g c =
    let books : List Text = c.args.book.now ∷ map string_bytes c.args.libraries.now in
    let shelf : ShelfCall = record { told = g.L.Shelf.told c.args.shelf.now; before = g.L.Shelf.faults c.args.shelf.now; after = g.L.Shelf.faults c.args.shelf.now; reads_before = g.L.Shelf.reads c.args.shelf.now; reads_after = g.L.Shelf.reads c.args.shelf.now } in
    books-many DrawsTexts books books shelf c.ending.result.lines (end_of c.ending.result.end)
    (omega (arith, c.most.ensures, length-map c.args.libraries.now string_bytes)) refl refl c.ending.ensures.lines c.ending.ensures.end

abbrev now_of : Bor Text → Text
now_of name = name.now

pub returns-in-Err-clause-draws : goal.returns-in-Err-clause-draws
returns-in-Err-clause-draws g c =
    let books : List Text = c.args.book.now ∷ map string_bytes c.args.libraries.now in
    let shelf : ShelfCall = shelf_call (g.L.Shelf.told c.args.shelf.now) (g.L.Shelf.faults c.args.shelf.now) (g.L.Shelf.faults c.args.shelf.now) (g.L.Shelf.reads c.args.shelf.now) (g.L.Shelf.reads c.args.shelf.now) in
    books-wanted DrawsTexts books c.args.book.now (map string_bytes c.args.libraries.now) shelf c.ending-in-Err.result.lines (end_of c.ending-in-Err.result.end)
    (omega (arith, c.most.ensures, length-map c.args.libraries.now string_bytes)) refl refl c.ending-in-Err.ensures.lines c.ending-in-Err.ensures.end

pub returns-in-Ok-clause-draws : goal.returns-in-Ok-clause-draws
returns-in-Ok-clause-draws g c =
    let shelf : ShelfCall = shelf_call (g.L.Shelf.told c.args.shelf.now) (g.L.Shelf.faults c.args.shelf.now) (g.L.Shelf.faults c.draw_files.new.shelf) (g.L.Shelf.reads c.args.shelf.now) (g.L.Shelf.reads c.draw_files.new.shelf) in
    subst (λ (l : List Text). Draws l shelf c.draw_files.result.lines (end_of c.draw_files.result.end)) (ap (map now_of) c.as_slice.ensures.value ∙ c.in-Ok.ensures) c.draw_files.ensures.draws

pub returns-in-Ok-clause-untouched : goal.returns-in-Ok-clause-untouched
returns-in-Ok-clause-untouched g c none =
    absurd (books-there (c.args.book.now ∷ map string_bytes c.args.libraries.now) c.args.book.now (map string_bytes c.args.libraries.now) (omega (arith, c.most.ensures, length-map c.args.libraries.now string_bytes)) none)

pub draw_files-requires-clause-few : goal.draw_files-requires-clause-few
draw_files-requires-clause-few g c =
    omega (arith, c.most.ensures, ap length c.as_slice.ensures.value, ap length c.in-Ok.ensures, length-map c.in-Ok.names.items now_of, length-map c.args.libraries.now string_bytes)

pub draw_files-requires-clause-some : goal.draw_files-requires-clause-some
draw_files-requires-clause-some g c =
    omega (arith, ap length c.as_slice.ensures.value, ap length c.in-Ok.ensures, length-map c.in-Ok.names.items now_of, length-map c.args.libraries.now string_bytes)
