use Rattle.std.proofs.Common.{◌≡◌, sym, ◌∙◌, ap, arith}
use Rattle.base_graphs.specs.Ranks.{stand_from}
use Rattle.base_graphs.specs.Tables.{row}
use Rattle.base_graphs.proofs.RowLemmas.{row_is}
use Rattle.base_graphs.proofs.RankLemmas.{NeverFalls-none, NeverFalls-more, NeverFalls-all}
use Rattle.base_graphs.proofs.returning.never_falls.Goals as goal

pub loop-from-init : goal.loop-from-init
loop-from-init c = NeverFalls-none c.args.ranks.now c.args.table.now

pub loop-from-preserved : goal.loop-from-preserved
loop-from-preserved c =
    let i = c.loop-from.from in
    let e : c.as_slice.result.now ≡ row c.args.table.now i = row_is c.args.table.now i c.index-table-from.result c.as_slice.result.now c.loop-from-test.true c.index-table-from.is c.as_slice.ensures in
    NeverFalls-more i c.args.ranks.now c.args.table.now c.as_slice.result.now e
    (ap (λ rank. stand_from c.args.ranks.now rank c.as_slice.result.now) (sym c.rank_at.ensures) ∙ sym c.stand_from.ensures ∙ c.if-not-stand_from.false) c.loop-from.invariant

pub returns : goal.returns
returns c = λ h. NeverFalls-all c.loop-from.from c.args.ranks.now c.args.table.now (omega (arith, c.loop-from-test.false)) c.loop-from.invariant
