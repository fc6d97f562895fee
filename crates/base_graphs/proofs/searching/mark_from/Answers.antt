use Rattle.std.proofs.Common.{[], sym, subst}
use Rattle.std.proofs.lemmas.List.{get_or_past}
use Rattle.base_graphs.specs.Searching.{Marks, IsOpenIn}
use Rattle.base_graphs.proofs.RowLemmas.{row_is}
use Rattle.base_graphs.proofs.MarkLemmas.{Marks-nil}
use Rattle.base_graphs.proofs.searching.mark_from.Goals as goal

pub returns-then-at-table : goal.returns-then-at-table
returns-then-at-table c =
    subst (λ r. Marks (IsOpenIn r c.args.blocked.now) c.args.marks.now c.args.work.now.items c.args.marks.now c.args.work.now.items)
    (sym (get_or_past c.args.table.now c.args.place [] c.if-at-table.true)) (Marks-nil c.args.blocked.now c.args.marks.now c.args.work.now.items)

pub returns : goal.returns
returns c =
    subst (λ r. Marks (IsOpenIn r c.args.blocked.now) c.args.marks.now c.args.work.now.items c.mark_row.new.marks c.mark_row.new.work.items)
    (row_is c.args.table.now c.args.place c.index-table-at.result c.as_slice.result.now c.if-at-table.false c.index-table-at.is c.as_slice.ensures) c.in_ok-mark_row.ensures
