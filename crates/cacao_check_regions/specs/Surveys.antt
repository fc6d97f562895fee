-- Promise: What is known of a book before its rules are asked.
use Rattle.std.specs.Prelude.{◌≡◌, ℕ, ◌<◌, List, [], Bool, Some, length, slice_get, slice_index_or}
use Rattle.cacao_book.specs.declared.books.Book.{Book}
use Rattle.cacao_check_regions.specs.declared.surveys.Survey.{Survey}
use Rattle.cacao_check_regions.specs.Regions.{IsPlaced, Encloses}
use Rattle.cacao_check_regions.specs.Endings.{ReachesEnd}
use Rattle.cacao_check_regions.specs.Charts.{IsChartOf, AreMarksOf}
use Rattle.cacao_check_steps.specs.Calls.{LeadsTo}
use Rattle.cacao_check_steps.specs.Parts.{ReadsSteps}

-- the survey is that of the book
pub record IsSurveyOf (books : List Book) (book : Book) (survey : Survey) : Type 0 where
  pub parts : ReadsSteps books book survey.parts.items
  pub chart : IsChartOf book survey.chart
  pub placed : AreMarksOf (IsPlaced book) survey.placed
  pub ending : AreMarksOf (ReachesEnd book) survey.ending
  pub enclosing : AreMarksOf (λ place. Encloses book place place) survey.enclosing

-- one survey for each book
pub record AreSurveysOf (books : List Book) (surveys : List Survey) : Type 0 where
  pub len : length surveys ≡ length books
  pub each : (n : ℕ) (book : Book) (survey : Survey) → slice_get books n ≡ Some book → slice_get surveys n ≡ Some survey
      → IsSurveyOf books book survey

-- for each book, the books to which it leads
pub record AreLeads (books : List Book) (leads : List (List Bool)) : Type 0 where
  pub len : length leads ≡ length books
  pub each : (n : ℕ) → n < length books → AreMarksOf (LeadsTo books n) (slice_index_or leads n [])
