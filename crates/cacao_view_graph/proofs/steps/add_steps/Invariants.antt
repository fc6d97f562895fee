use Rattle.std.proofs.Common.{◌≡◌, ◌++◌, drop, map}
use Rattle.std.specs.List.{flat_map}
use Rattle.cacao_view_graph.specs.Drawings.{step_statements}
use Rattle.cacao_view_graph.specs.Placing.{drawn_of}
use Rattle.cacao_view_graph.specs.Statements.{line_of}
use Rattle.cacao_view_graph.proofs.steps.add_steps.Given as goal

-- what is written, and what is left to write
abbrev pub invariant-loop-placed : goal.invariant-loop-placed
invariant-loop-placed l =
    l.lines.items ++ map line_of (flat_map (step_statements l.books l.number) (map drawn_of (drop l.placed-index l.steps)))
    ≡ l.fn.lines.items ++ map line_of (flat_map (step_statements l.books l.number) (map drawn_of l.steps))
