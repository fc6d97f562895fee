-- Promise: What playbooks are asked together: the rules K13 to K25 at each of their places.
use Rattle.std.specs.Prelude.{ℕ, List, [], ◌∷◌, Option, Some, None, IfSome, slice_get, ⊤}
use Rattle.cacao_book.specs.declared.books.Book.{Book}
use Rattle.cacao_book.specs.declared.steps.Step.{Step}
use Rattle.cacao_book_shape.specs.Shape.{place_rank}
use Rattle.cacao_check.specs.declared.breaks.Mode.{Mode}
use Rattle.cacao_check.specs.declared.rules.SenseRule.{SenseRule}
use Rattle.cacao_check.specs.declared.rules.SenseRule.TheVariants as rule
use Rattle.cacao_check.specs.Rules.{K13, K14, K15, K16, K17, K18, K19, K20, K21, K22, K23, K24, K25}

abbrev pub sense_number : SenseRule → ℕ
sense_number rule.K13 = 13
sense_number rule.K14 = 14
sense_number rule.K15 = 15
sense_number rule.K16 = 16
sense_number rule.K17 = 17
sense_number rule.K18 = 18
sense_number rule.K19 = 19
sense_number rule.K20 = 20
sense_number rule.K21 = 21
sense_number rule.K22 = 22
sense_number rule.K23 = 23
sense_number rule.K24 = 24
sense_number rule.K25 = 25

-- the rules of a whole book, and those of a step; the others ask nothing there
abbrev pub KeepsOfBook : List Book → ℕ → Book → SenseRule → Type 0
KeepsOfBook books n book rule.K14 = K14 books n book
KeepsOfBook books n book rule.K15 = K15 book
KeepsOfBook books n book rule.K20 = K20 book.variables
KeepsOfBook books n book _ = ⊤

abbrev pub KeepsOfStep : List Book → Mode → ℕ → Book → ℕ → Step → SenseRule → Type 0
KeepsOfStep books mode n book place step rule.K13 = K13 mode step
KeepsOfStep books mode n book place step rule.K14 = ⊤
KeepsOfStep books mode n book place step rule.K15 = ⊤
KeepsOfStep books mode n book place step rule.K16 = K16 book step
KeepsOfStep books mode n book place step rule.K17 = K17 book step
KeepsOfStep books mode n book place step rule.K18 = K18 books mode step
KeepsOfStep books mode n book place step rule.K19 = K19 books n step
KeepsOfStep books mode n book place step rule.K20 = K20 step.variables
KeepsOfStep books mode n book place step rule.K21 = K21 step
KeepsOfStep books mode n book place step rule.K22 = K22 book place step
KeepsOfStep books mode n book place step rule.K23 = K23 book place step
KeepsOfStep books mode n book place step rule.K24 = K24 books book place step
KeepsOfStep books mode n book place step rule.K25 = K25 book place

-- A demand: a rule, of a book or of the step at a place of it.
pub record SenseDemand : Type 0 where
  pub book : ℕ
  pub step : Option ℕ
  pub rule : SenseRule

-- books by their numbers, a book before its steps, the rules of one place by their numbers
abbrev pub sense_rank : SenseDemand → List ℕ
sense_rank demand = demand.book ∷ place_rank demand.step ∷ sense_number demand.rule ∷ []

-- a place that is not there asks nothing
abbrev pub KeepsAt : List Book → Mode → ℕ → Book → Option ℕ → SenseRule → Type 0
KeepsAt books mode n book None rule = KeepsOfBook books n book rule
KeepsAt books mode n book (Some place) rule =
    IfSome (slice_get book.steps place) (λ step. KeepsOfStep books mode n book place step rule)

abbrev pub KeepsIn : List Book → Mode → ℕ → Option ℕ → SenseRule → Type 0
KeepsIn books mode n step rule = IfSome (slice_get books n) (λ book. KeepsAt books mode n book step rule)

abbrev pub KeepsSense : List Book → Mode → SenseDemand → Type 0
KeepsSense books mode demand = KeepsIn books mode demand.book demand.step demand.rule

-- the books break no rule of their mode
abbrev pub IsSound : List Book → Mode → Type 0
IsSound books mode = (demand : SenseDemand) → KeepsSense books mode demand
