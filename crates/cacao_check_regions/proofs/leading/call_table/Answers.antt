use Rattle.std.proofs.Common.{◌≡◌, ◌<◌, Some, length, slice_get, refl, arith}
use Rattle.std.proofs.lemmas.Option.{slice_get_read}
use Rattle.cacao_check_steps.specs.Calls.{AreCallsOf}
use Rattle.cacao_check_steps.proofs.PairLemmas.{Pairs-more}
use Rattle.cacao_check_regions.proofs.LeadLemmas.{table_calls, table_within}
use Rattle.cacao_check_regions.proofs.leading.call_table.Goals as goal

pub call_row-requires : goal.call_row-requires
call_row-requires c =
    let n = c.loop-number.number in
    let lt : n < length c.args.books.now = omega (arith, c.requires.len, c.loop-number-test.true) in
    let atb : slice_get c.args.books.now n ≡ Some c.index-books-number.result = slice_get_read c.args.books.now (length c.args.books.now) n c.index-books-number.result refl lt c.index-books-number.is in
    let ats : slice_get c.args.surveys.now n ≡ Some c.index-surveys-number.result = slice_get_read c.args.surveys.now (length c.args.surveys.now) n c.index-surveys-number.result refl c.loop-number-test.true c.index-surveys-number.is in
    rw c.as_slice.ensures.value ((c.requires.each n c.index-books-number.result c.index-surveys-number.result atb ats).parts)

pub loop-number-preserved : goal.loop-number-preserved
loop-number-preserved c =
    let n = c.loop-number.number in
    let lt : n < length c.args.books.now = omega (arith, c.requires.len, c.loop-number-test.true) in
    let atb : slice_get c.args.books.now n ≡ Some c.index-books-number.result = slice_get_read c.args.books.now (length c.args.books.now) n c.index-books-number.result refl lt c.index-books-number.is in
    Pairs-more (AreCallsOf c.args.books.now) c.args.books.now c.loop-number.rows.items _ c.index-books-number.result c.in_ok-row.row n c.in_ok-push.ensures.items c.loop-number.invariant.0 atb c.in_ok-row.ensures c.loop-number.invariant.1

pub returns-clause-within : goal.returns-clause-within
returns-clause-within c = table_within c.args.books.now c.loop-number.rows.items (let e = c.loop-number.invariant.0 in omega (arith, c.requires.len)) c.loop-number.invariant.1

pub returns-clause-calls : goal.returns-clause-calls
returns-clause-calls c = table_calls c.args.books.now c.loop-number.rows.items (let e = c.loop-number.invariant.0 in omega (arith, c.requires.len)) c.loop-number.invariant.1
