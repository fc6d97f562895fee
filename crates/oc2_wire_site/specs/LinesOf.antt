-- Promise: What contracts see of a link over which lines go, and of a mark.
use Rattle.oc2_wire_link.specs.Links.{LinkView}
use Rattle.oc2_wire_site.specs.LineLinks.{LinesView, lines_view}
use Rattle.oc2_wire_site.specs.Marks.{WireMark}
use Rattle.oc2_wire_site.specs.declared.line_link.LineLink.{LineLink}
use Rattle.oc2_wire_site.specs.declared.mark.Mark.{Mark}

abbrev pub lines_of : {K : Type 0} {l : _} → (K → LinkView) → LineLink K l → LinesView
lines_of view lines = lines_view (view lines.link) lines.unread.items lines.passed lines.state

abbrev pub mark_of : {K : Type 0} {l : _} → (K → LinkView) → Mark K l → WireMark
mark_of view mark = record { lines = lines_of view mark.lines.value; taken = mark.taken; puts = mark.puts }
