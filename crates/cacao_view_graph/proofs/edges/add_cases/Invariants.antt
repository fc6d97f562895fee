use Rattle.std.proofs.Common.{◌≡◌, ◌++◌, drop, map}
use Rattle.cacao_view_graph.specs.Drawings.{case_edge}
use Rattle.cacao_view_graph.specs.Places.{place_of}
use Rattle.cacao_view_graph.specs.Statements.{line_of}
use Rattle.cacao_view_graph.proofs.edges.add_cases.Given as goal

-- what is written, and what is left to write
abbrev pub invariant-loop-case : goal.invariant-loop-case
invariant-loop-case l = l.lines.items ++ map line_of (map (case_edge (place_of l.from)) (drop l.case-index l.cases)) ≡ l.fn.lines.items ++ map line_of (map (case_edge (place_of l.from)) l.cases)
