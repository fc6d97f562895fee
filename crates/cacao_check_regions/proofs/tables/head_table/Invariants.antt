use Rattle.std.proofs.Common.{◌≡◌, map, take}
use Rattle.cacao_check_regions.proofs.tables.head_table.Given as goal

abbrev pub invariant-loop-one : goal.invariant-loop-one
invariant-loop-one l = l.rows.items ≡ map (λ one. one.heads) (take l.one-index l.parts)
