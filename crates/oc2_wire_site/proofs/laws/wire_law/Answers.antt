use Rattle.oc2_wire_site.proofs.LawLemmas.{lines_go_on, marked_keep_lines}
use Rattle.oc2_wire_site.proofs.laws.wire_law.Goals as goal

pub returns : goal.returns
returns c = record { marked = marked_keep_lines; goes_on = lines_go_on }
