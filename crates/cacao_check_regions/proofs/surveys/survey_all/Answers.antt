use Rattle.std.proofs.Common.{◌≡◌, length, Some, slice_get, refl}
use Rattle.std.proofs.lemmas.Option.{slice_get_read}
use Rattle.cacao_check_regions.specs.Surveys.{IsSurveyOf}
use Rattle.cacao_check_steps.proofs.PairLemmas.{Pairs-more}
use Rattle.cacao_check_regions.proofs.surveys.survey_all.Goals as goal

pub loop-book-preserved : goal.loop-book-preserved
loop-book-preserved c =
    let i = c.loop-book.book-index in
    let here : slice_get c.args.books.now i ≡ Some c.book-item.result = slice_get_read c.args.books.now (length c.args.books.now) i c.book-item.result refl c.loop-book-test.true c.book-item.is in
    Pairs-more (IsSurveyOf c.args.books.now) c.args.books.now c.loop-book.surveys.items _ c.book-item.result c.in_ok-survey.survey i c.in_ok-push.ensures.items c.loop-book.invariant.0 here c.in_ok-survey.ensures c.loop-book.invariant.1
