use Rattle.std.proofs.Common.{ℕ, ◌++◌, List, map}
use Rattle.std.specs.List.{flat_map}
use Rattle.std.proofs.lemmas.List.{map-append}
use Rattle.cacao_view_graph.specs.Drawings.{step_statements}
use Rattle.cacao_view_graph.specs.Placing.{drawn_of}
use Rattle.cacao_view_graph.specs.Statements.{line_of}
use Rattle.cacao_view_graph.specs.declared.placed.Placed.{Placed}
use Rattle.cacao_view_graph.proofs.LineLemmas.{added_more}
use Rattle.cacao_view_graph.proofs.steps.add_steps.Goals as goal

pub loop-placed-preserved : goal.loop-placed-preserved
loop-placed-preserved c =
    let F : List Placed → List (List ℕ) = λ steps. map line_of (flat_map (step_statements c.args.books.now c.args.number) (map drawn_of steps)) in
    let h : Placed → List (List ℕ) = λ step. map line_of (step_statements c.args.books.now c.args.number (drawn_of step)) in
    added_more F h c.args.steps.now c.loop-placed.placed-index c.placed-item.result c.loop-placed.lines.items c.add_step.new.lines.items (c.args.lines.now.items ++ F c.args.steps.now)
    (λ z rest. map-append line_of (step_statements c.args.books.now c.args.number (drawn_of z)) (flat_map (step_statements c.args.books.now c.args.number) (map drawn_of rest)))
    c.loop-placed-test.true c.placed-item.is c.in_ok-add_step.ensures c.loop-placed.invariant
