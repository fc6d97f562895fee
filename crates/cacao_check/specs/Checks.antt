-- Promise: What checking books answers.
use Rattle.std.specs.Prelude.{◌≡◌, ℕ, List, Option, option_map, option_and_then, slice_get, ⊤}
use Rattle.cacao_book.specs.declared.books.Book.{Book}
use Rattle.cacao_book_shape.specs.Least.{IsLeastBreak}
use Rattle.cacao_check.specs.declared.breaks.Mode.{Mode}
use Rattle.cacao_check.specs.declared.breaks.Break.{Break}
use Rattle.cacao_check.specs.declared.breaks.CheckError.{CheckError}
use Rattle.cacao_check.specs.declared.breaks.CheckError.TheVariants as check_error
use Rattle.cacao_check.specs.Sense.{SenseDemand, sense_rank, sense_number, KeepsSense}

-- books, and what they were checked for
pub record Checks : Type 0 where
  pub books : List Book
  pub mode : Mode

-- the key of the step at a place of a book
abbrev pub key_at : List Book → ℕ → Option ℕ → Option (List ℕ)
key_at books n step =
    option_and_then
    (λ place. option_and_then (λ book. option_map (λ s. s.key) (slice_get book.steps place)) (slice_get books n)) step

-- the break tells of the demand: its book, the key of its step, and its rule
pub record TellsBreak (books : List Book) (told : Break) (demand : SenseDemand) : Type 0 where
  pub book : told.book ≡ demand.book
  pub step : told.step ≡ key_at books demand.book demand.step
  pub rule : told.rule ≡ sense_number demand.rule

-- the cause of each refusal: the least break, or memory
abbrev pub RefusesBooks : List Book → Mode → CheckError → Type 0
RefusesBooks books mode (check_error.Broken told) =
    (demand : SenseDemand) × TellsBreak books told demand × IsLeastBreak sense_rank (KeepsSense books mode) demand
RefusesBooks books mode check_error.Memory = ⊤
