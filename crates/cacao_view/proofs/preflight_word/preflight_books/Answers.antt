-- Too many playbooks, or their files were read.
use Rattle.std.proofs.Common.{◌∙◌, sym, ap, subst, refl, arith, ℕ, ◌<◌, List, length, map, Bool, Bor}
use Rattle.std.specs.Prelude.{is_some, if◌then◌else◌}
use Rattle.std.proofs.lemmas.List.{length-map}
use Rattle.cacao_cli_ends.specs.Told.{end_of}
use Rattle.cacao_cli_ends.specs.Files.{ShelfCall, shelf_call}
use Rattle.cacao_view_preflight.specs.Preflights.{Preflights}
use Rattle.cacao_view_words.specs.Asked.{book_names, maybe_text}
use Rattle.cacao_view_words.specs.Texts.{Text}
use Rattle.cacao_view.specs.BookReading.{ReadsBooks}
use Rattle.cacao_view.specs.Flying.{bound_names}
use Rattle.cacao_view.proofs.BookReadLemmas.{books-many}
use Rattle.cacao_view.proofs.FlightLemmas.{bound-is, flight-there, flight-wanted, names-length}
use Rattle.cacao_view.proofs.preflight_word.preflight_books.Goals as goal

abbrev now_of : Bor Text → Text
now_of name = name.now

pub returns-then-len-most-clause-told : goal.returns-then-len-most-clause-told
returns-then-len-most-clause-told g c =
    let books : List Text = book_names c.args.books in
    let bind = maybe_text c.args.bind in
    let shelf : ShelfCall = record { told = g.L.Shelf.told c.args.shelf.now; before = g.L.Shelf.faults c.args.shelf.now; after = g.L.Shelf.faults c.args.shelf.now; reads_before = g.L.Shelf.reads c.args.shelf.now; reads_after = g.L.Shelf.reads c.args.shelf.now } in
    books-many (Preflights (is_some bind)) books (bound_names bind books) shelf c.ending.result.lines (end_of c.ending.result.end)
    (omega (arith, c.most.ensures, c.len.ensures.count)) refl refl c.ending.ensures.lines c.ending.ensures.end

pub returns-in-Err-clause-told : goal.returns-in-Err-clause-told
returns-in-Err-clause-told g c =
    let books : List Text = book_names c.args.books in
    let bind = maybe_text c.args.bind in
    let shelf : ShelfCall = shelf_call (g.L.Shelf.told c.args.shelf.now) (g.L.Shelf.faults c.args.shelf.now) (g.L.Shelf.faults c.args.shelf.now) (g.L.Shelf.reads c.args.shelf.now) (g.L.Shelf.reads c.args.shelf.now) in
    let some : 0 < length (bound_names bind books) = omega (arith, c.len.ensures.count, c.len.ensures.some, names-length c.args.bind books) in
    flight-wanted (Preflights (is_some bind)) books (bound_names bind books) shelf c.ending-in-Err.result.lines (end_of c.ending-in-Err.result.end) some
    (omega (arith, c.most.ensures, c.len.ensures.count)) refl refl c.ending-in-Err.ensures.lines c.ending-in-Err.ensures.end

pub returns-in-Ok-clause-told : goal.returns-in-Ok-clause-told
returns-in-Ok-clause-told g c =
    let books : List Text = book_names c.args.books in
    let bind = maybe_text c.args.bind in
    let shelf : ShelfCall = shelf_call (g.L.Shelf.told c.args.shelf.now) (g.L.Shelf.faults c.args.shelf.now) (g.L.Shelf.faults c.preflight_files.new.shelf) (g.L.Shelf.reads c.args.shelf.now) (g.L.Shelf.reads c.preflight_files.new.shelf) in
    subst (λ (b : Bool). ReadsBooks (Preflights b) books (bound_names bind books) shelf c.preflight_files.result.lines (end_of c.preflight_files.result.end)) (c.is_some.ensures ∙ sym (bound-is c.args.bind))
    (subst (λ (l : List Text). ReadsBooks (Preflights c.is_some.result) books l shelf c.preflight_files.result.lines (end_of c.preflight_files.result.end)) (ap (map now_of) c.as_slice.ensures.value ∙ c.in-Ok.ensures)
    (c.preflight_files.ensures.told books (omega (arith, c.most.ensures, c.len.ensures.count))))

pub returns-in-Ok-clause-untouched : goal.returns-in-Ok-clause-untouched
returns-in-Ok-clause-untouched g c none =
    let books : List Text = book_names c.args.books in
    let some : 0 < length (bound_names (maybe_text c.args.bind) books) = omega (arith, c.len.ensures.count, c.len.ensures.some, names-length c.args.bind books) in
    absurd (flight-there books (bound_names (maybe_text c.args.bind) books) some (omega (arith, c.most.ensures, c.len.ensures.count)) none)

pub preflight_files-requires-clause-few : goal.preflight_files-requires-clause-few
preflight_files-requires-clause-few g c =
    let books : List Text = book_names c.args.books in
    let same = ap {B = ℕ} (λ (b : Bool). if b then 1 else 0) c.is_some.ensures in
    omega (arith, same, c.most.ensures, ap length c.as_slice.ensures.value, ap length c.in-Ok.ensures, names-length c.args.bind books, length-map c.in-Ok.names.items now_of, c.len.ensures.count)

pub preflight_files-requires-clause-some : goal.preflight_files-requires-clause-some
preflight_files-requires-clause-some g c =
    let books : List Text = book_names c.args.books in
    let same = ap {B = ℕ} (λ (b : Bool). if b then 1 else 0) c.is_some.ensures in
    omega (arith, same, ap length c.as_slice.ensures.value, ap length c.in-Ok.ensures, names-length c.args.bind books, length-map c.in-Ok.names.items now_of, c.len.ensures.count, c.len.ensures.some)
