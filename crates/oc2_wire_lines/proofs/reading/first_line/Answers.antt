use Rattle.oc2_wire_lines.proofs.LineLemmas.{first_by}
use Rattle.oc2_wire_lines.proofs.reading.first_line.Goals as goal

pub returns : goal.returns
returns c = first_by c.args.bytes.now c.cut.result c.cut.ensures
