use Rattle.std.proofs.Common.{◌≡◌, ◌++◌, drop, map}
use Rattle.cacao_view_graph.specs.Drawings.{books_statements}
use Rattle.cacao_view_graph.specs.Placing.{drawn_book}
use Rattle.cacao_view_graph.specs.Statements.{line_of}
use Rattle.cacao_view_graph.proofs.pictures.add_books.Given as goal

-- what is written, and what is left to write
abbrev pub invariant-loop-number : goal.invariant-loop-number
invariant-loop-number l =
    l.lines.items ++ map line_of (books_statements l.books l.number (map drawn_book (drop l.number l.placed)))
    ≡ l.fn.lines.items ++ map line_of (books_statements l.books 0 (map drawn_book l.placed))
