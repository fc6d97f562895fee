use Rattle.std.proofs.Common.{◌∙◌, ◌++◌, List, None, ap, map}
use Rattle.std.specs.List.{flat_map}
use Rattle.cacao_book.specs.Books.{book}
use Rattle.cacao_view_graph.specs.Drawings.{exception_edges, step_statements}
use Rattle.cacao_view_graph.specs.Labels.{title}
use Rattle.cacao_view_graph.specs.Placing.{drawn_book, drawn_of}
use Rattle.cacao_view_graph.specs.Statements.{cluster, line_of}
use Rattle.cacao_view_graph.specs.declared.placed.Placed.{Placed}
use Rattle.cacao_view_graph.proofs.LineLemmas.{book_lines}
use Rattle.cacao_view_graph.proofs.pictures.add_book.Goals as goal

pub returns : goal.returns
returns c =
    let d = drawn_book c.args.placed.now in
    book_lines c.args.lines.now.items c.add_cluster.new.lines.items c.add_exception.new.lines.items c.add_steps.new.lines.items (cluster c.args.number None (title ((book d.tree).id, d.tree))) (exception_edges c.args.number (book d.tree))
    (flat_map (step_statements c.args.books.now c.args.number) d.steps) c.in_ok-add_cluster.ensures c.in_ok-add_exception.ensures
    (c.in_ok-add_steps.ensures
    ∙ ap (λ (steps : List Placed). c.add_exception.new.lines.items ++ map line_of (flat_map (step_statements c.args.books.now c.args.number) (map drawn_of steps))) c.as_slice.ensures.value)
