-- Promise: What a setup gives, by its parts.
use Rattle.std.specs.Prelude.{◌≡◌, ℕ, List, [], ◌∷◌, Option, Some, None, ⊤}
use Rattle.std.specs.List.{AllByRecursion}
use Rattle.cacao_vars.specs.Declarations.{IsBefore}
use Rattle.cacao_book.specs.declared.books.Book.{Book}
use Rattle.cacao_book.specs.declared.steps.Step.{Step}
use Rattle.cacao_check_steps.specs.declared.parts.Parts.{Parts}
use Rattle.cacao_check_steps.specs.Parts.{ReadsStep}
use Rattle.flow_core_rules.specs.Givens.{Given}

abbrev pub given_by : List Book → List (List ℕ) → List ℕ → List (List ℕ × ℕ) → List (List ℕ × List ℕ) → Given
given_by books texts bind agents variables = record {
  books = books;
  texts = texts;
  bind = bind;
  agents = agents;
  variables = variables;
}

-- each name comes before all later ones
abbrev pub AreInOrder : {A : Type 0} → List (List ℕ × A) → Type 0
AreInOrder [] = ⊤
AreInOrder (entry ∷ entries) = AllByRecursion (λ later. IsBefore entry.0 later.0) entries × AreInOrder entries

-- the parts are what was read of a step
pub record AreParts (given : Given) (at : Option Step) (parts : Parts) : Type 0 where
  pub book : Book
  pub step : Step
  pub step_is : at ≡ Some step
  pub reads : ReadsStep given.books book step parts

-- these parts were read of the step, or there is no such step
abbrev pub PartsOf : Given → Option Step → Option Parts → Type 0
PartsOf given at None = at ≡ None
PartsOf given at (Some parts) = AreParts given at parts
