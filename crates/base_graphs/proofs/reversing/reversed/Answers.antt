use Rattle.std.proofs.Common.{◌≡◌, length, arith, ◌∙◌}
use Rattle.base_graphs.specs.Tables.{row, IsWithin}
use Rattle.base_graphs.proofs.RowLemmas.{row_is}
use Rattle.base_graphs.proofs.BackLemmas.{Reverse-more, Reverse-all, Reverse-within}
use Rattle.base_graphs.proofs.reversing.reversed.Goals as goal

pub loop-from-preserved : goal.loop-from-preserved
loop-from-preserved c =
    let i = c.loop-from.from in
    let e : c.as_slice.result.now ≡ row c.args.rows.now i = row_is c.args.rows.now i c.index-rows-from.result c.as_slice.result.now c.loop-from-test.true c.index-rows-from.is c.as_slice.ensures in (
      c.in_ok-add_edges.ensures.len ∙ c.loop-from.invariant.0,
      Reverse-more i c.args.rows.now c.loop-from.back.items c.add_edges.new.back.items c.as_slice.result.now e c.loop-from.invariant.1 c.in_ok-add_edges.ensures,
    )

pub returns-clause-within : goal.returns-clause-within
returns-clause-within c =
    let same : c.loop-from.from ≡ length c.args.rows.now = omega arith in
    let all : IsWithin c.loop-from.from c.loop-from.back.items = Reverse-within c.loop-from.from c.args.rows.now c.loop-from.back.items c.loop-from.invariant.1 in
    rw same at all

pub returns-clause-edges : goal.returns-clause-edges
returns-clause-edges c =
    let same : c.loop-from.from ≡ length c.args.rows.now = omega arith in
    Reverse-all c.loop-from.from c.args.rows.now c.loop-from.back.items same c.loop-from.invariant.1
