use Rattle.std.proofs.Common.{◌≡◌, map, take}
use Rattle.cacao_check_regions.specs.Charts.{next_row}
use Rattle.cacao_check_regions.proofs.tables.next_table.Given as goal

abbrev pub invariant-loop-one : goal.invariant-loop-one
invariant-loop-one l = l.rows.items ≡ map next_row (take l.one-index l.parts)
