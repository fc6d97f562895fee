use Rattle.std.proofs.Common.{◌∙◌, map, sym}
use Rattle.cacao_json.specs.Tree.{data_of}
use Rattle.cacao_view_graph.specs.Placing.{drawn_book}
use Rattle.cacao_view_graph.proofs.DrawLemmas.{books_same}
use Rattle.cacao_view_graph.proofs.pictures.pictured.Goals as goal

pub drawn_lines-requires-clause-read : goal.drawn_lines-requires-clause-read
drawn_lines-requires-clause-read c = c.requires.read ∙ sym (books_same (map drawn_book c.args.placed.now) (map data_of c.args.trees.now) c.requires.drawn.trees_are)

pub returns : goal.returns
returns c = (map drawn_book c.args.placed.now, c.requires.drawn, c.requires.marked, c.in_ok-lines.ensures)
