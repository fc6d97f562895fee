-- Scaffold: What a walk over books, places and rules has found so far.
use Rattle.std.specs.Prelude.{ℕ, ◌<◌, List, Option, Some, None}
use Rattle.cacao_book.specs.declared.books.Book.{Book}
use Rattle.cacao_book_shape.specs.Least.{IsLeastBreak}
use Rattle.cacao_check.specs.declared.breaks.Mode.{Mode}
use Rattle.cacao_check.specs.declared.breaks.Break.{Break}
use Rattle.cacao_check.specs.declared.rules.SenseRule.{SenseRule}
use Rattle.cacao_check.specs.Sense.{SenseDemand, sense_rank, sense_number, KeepsIn, KeepsSense}
use Rattle.cacao_check.specs.Checks.{TellsBreak}

-- of the rules of one place none is broken, or this one is the first that is
abbrev pub FindsRule : List Book → Mode → ℕ → Option ℕ → Option SenseRule → Type 0
FindsRule books mode n step None = (rule : SenseRule) → KeepsIn books mode n step rule
FindsRule books mode n step (Some rule) =
    (¬ KeepsIn books mode n step rule)
    × ((other : SenseRule) → sense_number other < sense_number rule → KeepsIn books mode n step other)

-- all books before this one keep all rules
abbrev pub KeptBefore : List Book → Mode → ℕ → Type 0
KeptBefore books mode n = (book : ℕ) (step : Option ℕ) (rule : SenseRule) → book < n → KeepsIn books mode book step rule

-- none is broken, or the break is the least
abbrev pub FindsLeast : List Book → Mode → Option Break → Type 0
FindsLeast books mode None = (demand : SenseDemand) → KeepsSense books mode demand
FindsLeast books mode (Some told) =
    (demand : SenseDemand) × TellsBreak books told demand × IsLeastBreak sense_rank (KeepsSense books mode) demand

-- the same at one book, if all is kept before it
abbrev pub FindsAt : List Book → Mode → ℕ → Option Break → Type 0
FindsAt books mode n None = (step : Option ℕ) (rule : SenseRule) → KeepsIn books mode n step rule
FindsAt books mode n (Some told) = KeptBefore books mode n → FindsLeast books mode (Some told)
