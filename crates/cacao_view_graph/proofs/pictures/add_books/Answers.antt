use Rattle.cacao_view_graph.specs.Drawings.{books_statements}
use Rattle.std.proofs.Common.{◌++◌, map}
use Rattle.cacao_view_graph.specs.Placing.{drawn_book}
use Rattle.cacao_view_graph.specs.Statements.{line_of}
use Rattle.cacao_view_graph.proofs.LineLemmas.{books_next}
use Rattle.cacao_view_graph.proofs.pictures.add_books.Goals as goal

pub loop-number-preserved : goal.loop-number-preserved
loop-number-preserved c =
    books_next drawn_book c.args.books.now c.args.placed.now c.loop-number.number c.index-placed-number.result c.loop-number.lines.items c.add_book.new.lines.items (c.args.lines.now.items ++ map line_of (books_statements c.args.books.now 0 (map drawn_book c.args.placed.now)))
    c.loop-number-test.true c.index-placed-number.is c.in_ok-add_book.ensures c.loop-number.invariant
