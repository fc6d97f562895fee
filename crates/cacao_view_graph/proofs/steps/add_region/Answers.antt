-- A control step has a cluster.
use Rattle.std.proofs.Common.{rules, ◌≡◌, ◌++◌, true}
use Rattle.std.specs.Prelude.{codes}
use Rattle.cacao_book.specs.Books.{step_of}
use Rattle.cacao_view_graph.specs.Drawings.{branches}
use Rattle.cacao_view_graph.specs.Labels.{title}
use Rattle.cacao_view_graph.specs.Placing.{drawn_of}
use Rattle.cacao_view_graph.proofs.LineLemmas.{region_lines}
use Rattle.cacao_view_graph.proofs.steps.add_region.Goals as goal

pub returns : goal.returns
returns c =
    let m = (drawn_of c.args.placed.now).member in
    let branches : branches (step_of m).kind ≡ true = search rules in
    let key : c.text-key.result.now ≡ m.0 = search rules in
    let label : c.as_slice.result.now ≡ codes "region of " ++ title m = search rules in
    region_lines c.args.lines.now.items c.push.new.self.items c.args.number m c.text-key.result.now c.as_slice.result.now c.in_ok-line.line branches key label c.in_ok-line.ensures c.in_ok-push.ensures.items
