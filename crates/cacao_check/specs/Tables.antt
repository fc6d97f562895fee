-- Promise: What is kept of books that break no rule.
use Rattle.std.specs.Prelude.{◌≡◌, ◌≤◌, List, length}
use Rattle.cacao_book.specs.declared.books.Book.{Book}
use Rattle.cacao_check.specs.declared.breaks.Mode.{Mode}
use Rattle.cacao_check_regions.specs.declared.surveys.Survey.{Survey}
use Rattle.cacao_check_regions.specs.declared.regions.Regions.{Regions}
use Rattle.cacao_check.specs.Sense.{IsSound}
use Rattle.cacao_check_regions.specs.Charts.{AreRegionsOf}
use Rattle.cacao_check_steps.specs.Pairing.{EachPair}
use Rattle.cacao_check_regions.specs.Surveys.{AreSurveysOf}

-- one table of regions for each book
pub record AreTablesOf (books : List Book) (regions : List Regions) : Type 0 where
  pub len : length regions ≡ length books
  pub each : EachPair AreRegionsOf books regions

-- the books are sound, and each has its survey and its regions
pub record HasTables (books : List Book) (mode : Mode) (surveys : List Survey) (regions : List Regions) : Type 0 where
  pub some_book : 1 ≤ length books
  pub few : length books ≤ 16
  pub sound : IsSound books mode
  pub surveyed : AreSurveysOf books surveys
  pub charted : AreTablesOf books regions
