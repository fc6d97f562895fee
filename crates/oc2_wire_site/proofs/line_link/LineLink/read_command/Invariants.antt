use Rattle.oc2_wire_site.proofs.PassLemmas.{PassedSo}
use Rattle.oc2_wire_site.specs.LinesOf.{lines_of}
use Rattle.oc2_wire_site.proofs.line_link.LineLink.read_command.Given as goal

abbrev pub invariant-loop-count : goal.invariant-loop-count
invariant-loop-count g l = PassedSo l._count (lines_of g.K.Link.view l.fn.self) (lines_of g.K.Link.view l.self)
