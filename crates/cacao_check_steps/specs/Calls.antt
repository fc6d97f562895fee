-- Promise: Which books call which.
use Rattle.std.specs.Prelude.{◌≡◌, ◌↔◌, ℕ, List, Contains, Option, Some, IsSomeAnd, slice_get, position, option_and_then}
use Rattle.std.specs.Str.{bytes_eq}
use Rattle.cacao_book.specs.declared.books.Book.{Book}
use Rattle.cacao_book.specs.declared.steps.Step.{Step}
use Rattle.base_graphs.specs.Closure.{Closure}
use Rattle.cacao_check_steps.specs.Uses.{call_of}

-- the first book with an identifier
abbrev pub book_with : List Book → List ℕ → Option ℕ
book_with books id = position (λ book. bytes_eq book.id id) books

-- the book that a playbook-action calls, if it is given
abbrev pub called : List Book → Step → Option ℕ
called books step = option_and_then (book_with books) (call_of step.kind)

-- the list has the books that the steps of a book call
abbrev pub AreCallsOf : List Book → Book → List ℕ → Type 0
AreCallsOf books book row =
    (to : ℕ) → Contains row to ↔ ((step : Step) × Contains book.steps step × (called books step ≡ Some to))

-- one book calls another
abbrev pub Calls : List Book → ℕ → ℕ → Type 0
Calls books from to =
    IsSomeAnd (slice_get books from) (λ book. (step : Step) × Contains book.steps step × (called books step ≡ Some to))

-- by playbook-actions one book leads to another, or is it
abbrev pub LeadsTo : List Book → ℕ → ℕ → Type 0
LeadsTo books from = Closure (λ n. n ≡ from) (Calls books)
