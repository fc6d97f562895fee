-- In which cluster a step is drawn.
use Rattle.std.proofs.Common.{◌≡◌, ◌∙◌, ℕ, ◌+◌, ◌<◌, ◌≤◌, Bool, true, false, List, [], length, get_or, Some, None, refl, sym, ap, subst, arith, inl, inr, ◌⊎◌}
use Rattle.std.proofs.lemmas.Bool.{cases_lt, true≢false}
use Rattle.std.proofs.lemmas.List.{get_or_past}
use Rattle.std.specs.Prelude.{slice_get}
use Rattle.cacao_book.specs.declared.books.Book.{Book}
use Rattle.cacao_book.specs.declared.steps.Step.{Step}
use Rattle.cacao_check_regions.specs.Charts.{AreRegionsOf}
use Rattle.cacao_check_regions.specs.declared.regions.Regions.{Regions}
use Rattle.cacao_check_regions.proofs.ChartLemmas.{region_within}
use Rattle.cacao_view_graph.specs.Homes.{IsAlone, IsHome}
use Rattle.cacao_view_graph.specs.Finding.{FindsHome, FindsNext, Has, HasAlone}

-- ---- the first region

-- past the table no region has a place
pub past_has_not : (rows : List (List Bool)) (place control : ℕ) → length rows ≤ control → ¬ Has rows place control
past_has_not rows place control past h = true≢false (sym h ∙ ap (λ (row : List Bool). get_or row place false) (get_or_past rows control [] past))

-- one region more has it not
pub none_more : (rows : List (List Bool)) (place from i : ℕ) → ((control : ℕ) → from ≤ control → control < i → ¬ Has rows place control) → ¬ Has rows place i
    → (control : ℕ) → from ≤ control → control < i + 1 → ¬ Has rows place control
none_more rows place from i before here control low lt =
    elim (cases_lt control i) [ inl less ↦ before control low less | inr least ↦ let same : i ≡ control = omega arith in subst (λ k. ¬ Has rows place k) same here ]

-- none has it
pub none_all : (rows : List (List Bool)) (place from i : ℕ) → length rows ≤ i → ((control : ℕ) → from ≤ control → control < i → ¬ Has rows place control)
    → (control : ℕ) → from ≤ control → ¬ Has rows place control
none_all rows place from i over before control low =
    elim (cases_lt control i) [ inl less ↦ before control low less | inr least ↦ past_has_not rows place control (omega arith) ]

-- ---- the only region

pub only_none : (rows : List (List Bool)) (place : ℕ) → ((control : ℕ) → 0 ≤ control → ¬ Has rows place control) → (control : ℕ) → ¬ HasAlone rows place control
only_none rows place none control h = none control (omega arith) h.0

pub only_two : (rows : List (List Bool)) (place first second : ℕ) → Has rows place first → Has rows place second → first + 1 ≤ second → (control : ℕ) → ¬ HasAlone rows place control
only_two rows place first second has also later control h =
    let one : first ≡ control = h.1 first has in
    let two : second ≡ control = h.1 second also in
    omega arith

pub only_one : (rows : List (List Bool)) (place first : ℕ) → FindsNext rows place 0 (Some first) → ((control : ℕ) → first + 1 ≤ control → ¬ Has rows place control) → HasAlone rows place first
only_one rows place first found none = (found.0, λ other h. same other h (cases_lt other first))
  where
    same : (other : ℕ) → Has rows place other → (other < first) ⊎ (first ≤ other) → other ≡ first
    same other h (inl less) = absurd (found.2 other (omega arith) less h)
    same other h (inr least) = elim (cases_lt first other) [ inl more ↦ absurd (none other (omega arith) h) | inr most ↦ omega arith ]

-- ---- homes

alone_from : (book : Book) (regions : Regions) (place control : ℕ) → AreRegionsOf book regions → IsAlone book place control → HasAlone regions.controls.items place control
alone_from book regions place control are alone =
    ((are.controls control place).1 alone.inside, λ other h. alone.only other ((are.controls other place).0 h))

pub no_home : (book : Book) (regions : Regions) (place : ℕ) → AreRegionsOf book regions → FindsHome regions place None → IsHome book place None
no_home book regions place are found control alone =
    alone.not_main ((are.main place).0 (found control (alone_from book regions place control are alone)))

pub home_within : (book : Book) (regions : Regions) (place control : ℕ) → AreRegionsOf book regions → FindsHome regions place (Some control) → control < length book.steps
home_within book regions place control are found = region_within book control ((are.controls control place).0 found.0.0)

pub some_home : (book : Book) (regions : Regions) (place control : ℕ) (step : Step) → AreRegionsOf book regions → FindsHome regions place (Some control) → slice_get book.steps control ≡ Some step
    → IsHome book place (Some step.key)
some_home book regions place control step are found at = (
  control,
  record {
    inside = (are.controls control place).0 found.0.0;
    not_main = λ main. found.1 ((are.main place).1 main);
    only = λ other inside. found.0.1 other ((are.controls other place).1 inside);
  },
  (step, at, refl),
)
