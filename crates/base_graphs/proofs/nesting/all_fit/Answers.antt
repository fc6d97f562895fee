use Rattle.base_graphs.proofs.RowLemmas.{row_is}
use Rattle.base_graphs.proofs.NestLemmas.{all_fit_more, all_fit_all}
use Rattle.base_graphs.proofs.nesting.all_fit.Goals as goal

pub loop-from-preserved : goal.loop-from-preserved
loop-from-preserved c =
    let i = c.loop-from.from in
    all_fit_more i c.args.is_guarded c.args.found.now c.args.nests.now c.args.table.now c.as_slice.result.now (row_is c.args.table.now i c.index-table-from.result c.as_slice.result.now c.loop-from-test.true c.index-table-from.is c.as_slice.ensures)
    (c.place_fits.ensures c.if-not-place_fits.false) c.loop-from.invariant

pub returns : goal.returns
returns c h = all_fit_all c.loop-from.from c.args.is_guarded c.args.found.now c.args.nests.now c.args.table.now c.loop-from-test.false c.loop-from.invariant
