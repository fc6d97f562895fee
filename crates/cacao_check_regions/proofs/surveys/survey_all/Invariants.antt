use Rattle.std.proofs.Common.{◌≡◌, length}
use Rattle.cacao_check_regions.specs.Surveys.{IsSurveyOf}
use Rattle.cacao_check_steps.specs.Pairing.{EachPair}
use Rattle.cacao_check_regions.proofs.surveys.survey_all.Given as goal

abbrev pub invariant-loop-book : goal.invariant-loop-book
invariant-loop-book l = (length l.surveys.items ≡ l.book-index) × EachPair (IsSurveyOf l.books) l.books l.surveys.items
