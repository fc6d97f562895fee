-- Promise: What holds of books that break no rule, as far as a run of them rests on it.
use Rattle.std.specs.Prelude.{◌≡◌, ℕ, ◌<◌, ◌≤◌, List, Some, IsTrue, slice_get}
use Rattle.std.specs.Fmt.{decimal}
use Rattle.cacao_vars.specs.declared.kinds.Kind.{Kind}
use Rattle.cacao_book.specs.declared.books.Book.{Book}
use Rattle.cacao_book.specs.declared.steps.Step.{Step}
use Rattle.cacao_check.specs.declared.breaks.Mode.{Mode}
use Rattle.cacao_check.specs.declared.rules.SenseRule.{SenseRule}
use Rattle.cacao_check_regions.specs.Regions.{Encloses}
use Rattle.cacao_check_regions.specs.Endings.{ReachesEnd}
use Rattle.cacao_check_steps.specs.Calls.{called, LeadsTo}
use Rattle.cacao_check.specs.Fits.{FitsKind}
use Rattle.cacao_check_regions.specs.Flaws.{may_take}
use Rattle.cacao_check.specs.Sense.{IsSound, KeepsOfBook, KeepsOfStep}

-- sound books keep each rule, of each book and of each step
pub record SoundGives : Type 0 where
  pub of_step : (books : List Book) (mode : Mode) → IsSound books mode
      → (n place : ℕ) (book : Book) (step : Step) (rule : SenseRule)
      → slice_get books n ≡ Some book → slice_get book.steps place ≡ Some step → KeepsOfStep books mode n book place step rule
  pub of_book : (books : List Book) (mode : Mode) → IsSound books mode → (n : ℕ) (book : Book) (rule : SenseRule)
      → slice_get books n ≡ Some book → KeepsOfBook books n book rule

-- from each step of sound books a path can end, no step encloses itself, and no called book leads back
pub record SoundEnds : Type 0 where
  pub ends : (books : List Book) (mode : Mode) → IsSound books mode → (n place : ℕ) (book : Book) (step : Step)
      → slice_get books n ≡ Some book → slice_get book.steps place ≡ Some step → ReachesEnd book place
  pub apart : (books : List Book) (mode : Mode) → IsSound books mode → (n place : ℕ) (book : Book) (step : Step)
      → slice_get books n ≡ Some book → slice_get book.steps place ≡ Some step → ¬ Encloses book place place
  pub no_circle : (books : List Book) (mode : Mode) → IsSound books mode → (n m place : ℕ) (book theirs : Book) (step : Step)
      → slice_get books n ≡ Some book → slice_get book.steps place ≡ Some step → called books step ≡ Some m
      → slice_get books m ≡ Some theirs → ¬ LeadsTo books m n

-- What is written for a result fits the kind that takes it: a number in decimal for the first two, any text for the third.
pub record ResultsFit : Type 0 where
  pub number : (k n : ℕ) (kind : Kind) → IsTrue (may_take k kind) → n ≤ 9007199254740991 → k < 2 → FitsKind kind (decimal n)
  pub text : (kind : Kind) (text : List ℕ) → IsTrue (may_take 2 kind) → FitsKind kind text
