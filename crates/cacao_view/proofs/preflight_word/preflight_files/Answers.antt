-- The files are read, and then their texts are judged.
use Rattle.std.proofs.Common.{refl, arith, map, Ok, Err, Bor}
use Rattle.std.proofs.lemmas.List.{length-map}
use Rattle.cacao_cli_ends.specs.Told.{end_of}
use Rattle.cacao_cli_ends.specs.Files.{ShelfCall, book_file}
use Rattle.cacao_cli_ends.proofs.ReadLemmas.{reads-length}
use Rattle.cacao_cli_looks.specs.Command.{text_of}
use Rattle.cacao_view_preflight.specs.Preflights.{Preflights}
use Rattle.cacao_view_words.specs.Texts.{Text}
use Rattle.cacao_view.proofs.BookReadLemmas.{books-read, names-read}
use Rattle.cacao_view.proofs.preflight_word.preflight_files.Goals as goal

pub returns-in-Err-clause-told : goal.returns-in-Err-clause-told
returns-in-Err-clause-told g c =
    let shelf : ShelfCall = record { told = g.L.Shelf.told c.args.shelf.now; before = g.L.Shelf.faults c.args.shelf.now; after = g.L.Shelf.faults c.read_files.new.shelf; reads_before = g.L.Shelf.reads c.args.shelf.now; reads_after = g.L.Shelf.reads c.read_files.new.shelf } in
    λ books few. books-read (Preflights c.args.bound) books (map (λ name. name.now) c.args.names.now) shelf (Err (end_of c.in-Err.end)) c.ending.result.lines (end_of c.ending.result.end) few
    (names-read c.args.names.now (map (λ name. name.now) c.args.names.now) shelf (Err (end_of c.in-Err.end)) refl c.in-Err.ensures.reads) (c.ending.ensures.lines, c.ending.ensures.end)

pub returns-in-Ok-clause-told : goal.returns-in-Ok-clause-told
returns-in-Ok-clause-told g c =
    let shelf : ShelfCall = record { told = g.L.Shelf.told c.args.shelf.now; before = g.L.Shelf.faults c.args.shelf.now; after = g.L.Shelf.faults c.read_files.new.shelf; reads_before = g.L.Shelf.reads c.args.shelf.now; reads_after = g.L.Shelf.reads c.read_files.new.shelf } in
    λ books few. books-read (Preflights c.args.bound) books (map (λ name. name.now) c.args.names.now) shelf (Ok (map text_of c.in-Ok.texts.items)) c.preflight.result.lines (end_of c.preflight.result.end) few
    (names-read c.args.names.now (map (λ name. name.now) c.args.names.now) shelf (Ok (map text_of c.in-Ok.texts.items)) refl c.in-Ok.ensures.reads) c.preflight.ensures

pub preflight-requires-clause-few : goal.preflight-requires-clause-few
preflight-requires-clause-few g c =
    let same = reads-length (g.L.Shelf.told c.args.shelf.now) (map (λ name. book_file name.now) c.args.names.now) c.in-Ok.ensures.reads.count (Ok (map text_of c.in-Ok.texts.items)) (map text_of c.in-Ok.texts.items) c.in-Ok.ensures.reads.reads refl in
    omega (arith, same, length-map c.in-Ok.texts.items text_of, length-map c.args.names.now (λ (name : Bor Text). book_file name.now), c.requires.few)

pub preflight-requires-clause-some : goal.preflight-requires-clause-some
preflight-requires-clause-some g c =
    let same = reads-length (g.L.Shelf.told c.args.shelf.now) (map (λ name. book_file name.now) c.args.names.now) c.in-Ok.ensures.reads.count (Ok (map text_of c.in-Ok.texts.items)) (map text_of c.in-Ok.texts.items) c.in-Ok.ensures.reads.reads refl in
    omega (arith, same, length-map c.in-Ok.texts.items text_of, length-map c.args.names.now (λ (name : Bor Text). book_file name.now), c.requires.some)
