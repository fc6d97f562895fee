use Rattle.std.proofs.Common.{◌≡◌, ◌++◌, drop, map}
use Rattle.cacao_view_graph.specs.Drawings.{link}
use Rattle.cacao_view_graph.specs.Places.{place_of}
use Rattle.cacao_view_graph.specs.Statements.{line_of}
use Rattle.cacao_view_graph.proofs.edges.add_keys.Given as goal

-- what is written, and what is left to write
abbrev pub invariant-loop-key : goal.invariant-loop-key
invariant-loop-key l = l.lines.items ++ map line_of (map (link (place_of l.from) l.name) (drop l.key-index l.keys)) ≡ l.fn.lines.items ++ map line_of (map (link (place_of l.from) l.name) l.keys)
