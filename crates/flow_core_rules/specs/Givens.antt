-- Promise: What a run is given, and where the links of its playbooks lead.
use Rattle.std.specs.Prelude.{ℕ, List, length, Option, slice_get, option_and_then, option_map, position, unwrap_or}
use Rattle.std.specs.Option.{option_map_or}
use Rattle.std.specs.Str.{bytes_eq}
use Rattle.cacao_book.specs.declared.books.Book.{Book}
use Rattle.cacao_book.specs.declared.steps.Step.{Step}
use Rattle.cacao_book.specs.Steps.{place_of}

-- The playbooks, the first one being that which is run, and their canonical texts; the canonical text of the bindings (empty:
-- there are none), the filters that they bind to agents and targets, and the texts that they bind to variables of the first
-- playbook.
pub record Given : Type 0 where
  pub books : List Book
  pub texts : List (List ℕ)
  pub bind : List ℕ
  pub agents : List (List ℕ × ℕ)
  pub variables : List (List ℕ × List ℕ)

abbrev pub book_at : Given → ℕ → Option Book
book_at given book = slice_get given.books book

-- the step with this number; steps stand in the order of their keys
abbrev pub step_at : Given → ℕ → ℕ → Option Step
step_at given book step = option_and_then (λ b. slice_get b.steps step) (book_at given book)

-- The number of the step with this key. A key that names no step leads past the last one; links of accepted playbooks all name
-- steps.
abbrev pub number_of_step : Given → ℕ → List ℕ → ℕ
number_of_step given book key = option_map_or (λ b. unwrap_or (place_of b.steps key) (length b.steps)) (book_at given book) 0

-- the first playbook with this identifier, and its number
abbrev pub book_with : Given → List ℕ → Option (ℕ × Book)
book_with given id =
    option_and_then (λ n. option_map (λ b. (n, b)) (book_at given n)) (position (λ b. bytes_eq b.id id) given.books)
