-- The files are read, and then their texts are explained.
use Rattle.std.proofs.Common.{refl, subst, ap, arith, List, length, map, Ok, Err, Bor}
use Rattle.std.proofs.lemmas.List.{length-map}
use Rattle.cacao_cli_ends.specs.Told.{end_of}
use Rattle.cacao_cli_ends.specs.Files.{ShelfCall, book_file}
use Rattle.cacao_cli_ends.proofs.ReadLemmas.{reads-length}
use Rattle.cacao_cli_looks.specs.Command.{text_of}
use Rattle.cacao_cli_looks.specs.declared.file_text.FileText.{FileText}
use Rattle.cacao_view_words.specs.Texts.{Text}
use Rattle.cacao_view.specs.Explaining.{ExplainsTexts}
use Rattle.cacao_view.proofs.BookReadLemmas.{books-named}
use Rattle.cacao_view.proofs.explain_word.explain_files.Goals as goal

pub returns-in-Err-clause-told : goal.returns-in-Err-clause-told
returns-in-Err-clause-told g c =
    let shelf : ShelfCall = record { told = g.L.Shelf.told c.args.shelf.now; before = g.L.Shelf.faults c.args.shelf.now; after = g.L.Shelf.faults c.read_files.new.shelf; reads_before = g.L.Shelf.reads c.args.shelf.now; reads_after = g.L.Shelf.reads c.read_files.new.shelf } in
    books-named ExplainsTexts c.args.names.now shelf (Err (end_of c.in-Err.end)) c.ending.result.lines (end_of c.ending.result.end) c.requires.few c.in-Err.ensures.reads (c.ending.ensures.lines, c.ending.ensures.end)

pub returns-in-Ok-clause-told : goal.returns-in-Ok-clause-told
returns-in-Ok-clause-told g c =
    let shelf : ShelfCall = record { told = g.L.Shelf.told c.args.shelf.now; before = g.L.Shelf.faults c.args.shelf.now; after = g.L.Shelf.faults c.read_files.new.shelf; reads_before = g.L.Shelf.reads c.args.shelf.now; reads_after = g.L.Shelf.reads c.read_files.new.shelf } in
    books-named ExplainsTexts c.args.names.now shelf (Ok (map text_of c.in-Ok.texts.items)) c.explain.result.lines (end_of c.explain.result.end) c.requires.few c.in-Ok.ensures.reads
    (subst (λ (l : List FileText). ExplainsTexts (map text_of l) c.explain.result.lines (end_of c.explain.result.end)) c.as_slice.ensures.value (c.explain.ensures.end, c.explain.ensures.told))

pub explain-requires-clause-few : goal.explain-requires-clause-few
explain-requires-clause-few g c =
    let same = reads-length (g.L.Shelf.told c.args.shelf.now) (map (λ name. book_file name.now) c.args.names.now) c.in-Ok.ensures.reads.count (Ok (map text_of c.in-Ok.texts.items)) (map text_of c.in-Ok.texts.items) c.in-Ok.ensures.reads.reads refl in
    omega (arith, same, length-map c.in-Ok.texts.items text_of, length-map c.args.names.now (λ (name : Bor Text). book_file name.now), ap length c.as_slice.ensures.value, c.requires.few)

pub explain-requires-clause-some : goal.explain-requires-clause-some
explain-requires-clause-some g c =
    let same = reads-length (g.L.Shelf.told c.args.shelf.now) (map (λ name. book_file name.now) c.args.names.now) c.in-Ok.ensures.reads.count (Ok (map text_of c.in-Ok.texts.items)) (map text_of c.in-Ok.texts.items) c.in-Ok.ensures.reads.reads refl in
    omega (arith, same, length-map c.in-Ok.texts.items text_of, length-map c.args.names.now (λ (name : Bor Text). book_file name.now), ap length c.as_slice.ensures.value, c.requires.some)
