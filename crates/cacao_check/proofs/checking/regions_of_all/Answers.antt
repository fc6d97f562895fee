use Rattle.std.proofs.Common.{◌≡◌, ◌<◌, Some, length, slice_get, subst, refl, arith}
use Rattle.std.proofs.lemmas.Option.{slice_get_read}
use Rattle.cacao_check_regions.specs.declared.surveys.Survey.{Survey}
use Rattle.cacao_check_regions.specs.Charts.{IsChartOf, AreRegionsOf}
use Rattle.cacao_check_steps.proofs.PairLemmas.{Pairs-more}
use Rattle.cacao_check.proofs.checking.regions_of_all.Goals as goal

pub regions_of-requires : goal.regions_of-requires
regions_of-requires c =
    let n = c.loop-number.number in
    let atb : slice_get c.args.books.now n ≡ Some c.index-books-number.result = slice_get_read c.args.books.now (length c.args.books.now) n c.index-books-number.result refl c.loop-number-test.true c.index-books-number.is in
    let lt : n < length c.args.surveys.now = omega (arith, c.requires.len, c.loop-number-test.true) in
    let ats : slice_get c.args.surveys.now n ≡ Some c.index-surveys-number.result = slice_get_read c.args.surveys.now (length c.args.surveys.now) n c.index-surveys-number.result refl lt c.index-surveys-number.is in
    subst (λ (survey : Survey). IsChartOf c.index-books-number.result survey.chart) c.index-surveys-number.is (c.requires.each n c.index-books-number.result c.index-surveys-number.result atb ats).chart

pub loop-number-preserved : goal.loop-number-preserved
loop-number-preserved c =
    let n = c.loop-number.number in
    let atb : slice_get c.args.books.now n ≡ Some c.index-books-number.result = slice_get_read c.args.books.now (length c.args.books.now) n c.index-books-number.result refl c.loop-number-test.true c.index-books-number.is in
    Pairs-more AreRegionsOf c.args.books.now c.loop-number.all.items _ c.index-books-number.result c.in_ok-regions.regions n c.in_ok-push.ensures.items c.loop-number.invariant.0 atb c.in_ok-regions.ensures c.loop-number.invariant.1
