use Rattle.oc2_wire_lines.proofs.LawLemmas.{lines_spell_one, lines_read_one_way, carried_read_back}
use Rattle.oc2_wire_lines.proofs.LinesCut.{fronts_have_sent_lines, lines_are_cut_one_way, lines_stay}
use Rattle.oc2_wire_lines.proofs.laws.lines_law.Goals as goal

pub returns : goal.returns
returns c = record {
  spell_one = lines_spell_one;
  read_one_way = lines_read_one_way;
  carried_read_back = carried_read_back;
  one_way = lines_are_cut_one_way;
  stay = lines_stay;
  sent = fronts_have_sent_lines;
}
