use Rattle.std.proofs.Common.{◌≡◌, ◌<◌, Some, length, slice_get, refl, arith}
use Rattle.std.proofs.lemmas.Option.{slice_get_read}
use Rattle.cacao_check.proofs.WalkLemmas.{KeptBefore-all}
use Rattle.cacao_check.proofs.walking.least_break.Goals as goal

pub break_of_book-requires-clause-survey : goal.break_of_book-requires-clause-survey
break_of_book-requires-clause-survey c =
    let n = c.loop-number.number in
    let atb : slice_get c.args.books.now n ≡ Some c.index-books-number.result = slice_get_read c.args.books.now (length c.args.books.now) n c.index-books-number.result refl c.loop-number-test.true c.index-books-number.is in
    let lt : n < length c.args.surveys.now = omega (arith, c.requires.surveys.len, c.loop-number-test.true) in
    let ats : slice_get c.args.surveys.now n ≡ Some c.index-surveys-number.result = slice_get_read c.args.surveys.now (length c.args.surveys.now) n c.index-surveys-number.result refl lt c.index-surveys-number.is in
    c.requires.surveys.each n c.index-books-number.result c.index-surveys-number.result atb ats

pub returns : goal.returns
returns c = KeptBefore-all c.args.books.now c.args.mode c.loop-number.number c.loop-number-test.false c.loop-number.invariant
