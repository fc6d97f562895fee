use Rattle.std.proofs.Common.{take, get_or}
use Rattle.std.proofs.lemmas.List.{take_more}
use Rattle.base_graphs.proofs.MarkLemmas.{Marks-more}
use Rattle.base_graphs.proofs.searching.mark_row.Goals as goal

pub loop-place-preserved : goal.loop-place-preserved
loop-place-preserved c =
    let i = c.loop-place.place-index in
    rw (take_more c.args.row.now i 0 c.loop-place-test.true)
    (Marks-more (take i c.args.row.now) (get_or c.args.row.now i 0) c.args.blocked.now _ _ _ _ _ _ c.loop-place.invariant c.in_ok-mark_place.ensures)
