use Rattle.run_journal.proofs.LayoutLaws.{one_list, no_list_where_damaged}
use Rattle.run_journal.proofs.PlaceLaws.{layout_stands, one_place, stands_or_damaged}
use Rattle.run_journal.proofs.laws.layout_law.Goals as goal

pub returns : goal.returns
returns c = record {
  one_list = one_list;
  layout_stands = layout_stands;
  damaged = no_list_where_damaged;
  one_place = one_place;
  stands_or_damaged = stands_or_damaged;
}
