use Rattle.std.proofs.Common.{arith}
use Rattle.cacao_check_regions.proofs.LeadLemmas.{leads_marks, leads_more}
use Rattle.cacao_check_regions.proofs.leading.leads_of.Goals as goal

pub loop-number-preserved : goal.loop-number-preserved
loop-number-preserved c =
    let n = c.loop-number.number in
    leads_more c.args.books.now c.loop-number.leads.items _ n c.in_ok-marks.marks c.in_ok-push.ensures.items c.loop-number.invariant.0
    (leads_marks c.args.books.now c.in_ok-table.table.items n c.in_ok-marks.marks c.in_ok-table.ensures.calls (rw c.as_slice.ensures.value at c.in_ok-marks.ensures.exact)) c.loop-number.invariant.1

pub returns : goal.returns
returns c = record { len = (let e = c.loop-number.invariant.0 in omega arith); each = λ n lt. c.loop-number.invariant.1 n (let e = c.loop-number-test.false in omega arith) }
