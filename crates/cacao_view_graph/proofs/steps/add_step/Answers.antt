use Rattle.cacao_book.specs.Books.{step_of}
use Rattle.cacao_view_graph.specs.Drawings.{edges, region_clusters, step_node}
use Rattle.cacao_view_graph.specs.Placing.{drawn_of}
use Rattle.cacao_view_graph.proofs.LineLemmas.{step_lines}
use Rattle.cacao_view_graph.proofs.steps.add_step.Goals as goal

pub returns : goal.returns
returns c =
    let d = drawn_of c.args.placed.now in
    step_lines c.args.lines.now.items c.add_region.new.lines.items c.add_node.new.lines.items c.add_links_of.new.lines.items (region_clusters c.args.number d.member) (edges c.args.books.now (c.args.number, d.member.0) (step_of d.member))
    (step_node c.args.number d) c.in_ok-add_region.ensures c.in_ok-add_node.ensures c.in_ok-add_links_of.ensures
