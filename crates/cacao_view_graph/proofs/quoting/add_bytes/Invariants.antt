use Rattle.std.proofs.Common.{◌≡◌, ◌++◌, drop}
use Rattle.std.specs.List.{flat_map}
use Rattle.cacao_view_graph.specs.Quoting.{quoted_byte, replaced}
use Rattle.cacao_view_graph.proofs.quoting.add_bytes.Given as goal

-- what is written, and what is left to write behind the last two bytes
abbrev pub invariant-loop-byte : goal.invariant-loop-byte
invariant-loop-byte l =
    l.out.items ++ flat_map quoted_byte (replaced l.first l.second (drop l.byte-index l.text)) ≡ l.fn.out.items ++ flat_map quoted_byte (replaced 0 0 l.text)
