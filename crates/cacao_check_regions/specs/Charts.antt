-- Promise: Tables of a book's links, and what is found in them.
use Rattle.std.specs.Prelude.{◌≡◌, ◌≢◌, ◌⊎◌, ◌↔◌, ℕ, ◌<◌, List, [], ◌++◌, length, map, Contains, All, slice_index_or}
use Rattle.std.specs.Prelude.{Bool, IsTrue, Option, option_to_list}
use Rattle.cacao_book.specs.declared.books.Book.{Book}
use Rattle.base_graphs.specs.Closure.{Closure}
use Rattle.base_graphs.specs.Tables.{IsMarked, IsOpen, IsWithin, IsReverse}
use Rattle.base_graphs.specs.Nests.{IsInside}
use Rattle.cacao_check_regions.specs.declared.charts.Chart.{Chart}
use Rattle.cacao_check_regions.specs.declared.regions.Regions.{Regions}
use Rattle.cacao_check_steps.specs.declared.parts.Parts.{Parts}
use Rattle.cacao_check_steps.specs.Links.{next_keys, head_keys, places_of, start_places, GoesTo, Begins}
use Rattle.cacao_check_regions.specs.Regions.{InMain, InRegion}
use Rattle.cacao_check_regions.specs.Declarers.{AreDeclarersOf}

-- the marks are those of the places of which P holds
abbrev pub AreMarksOf : (ℕ → Type 0) → List Bool → Type 0
AreMarksOf P marks = (place : ℕ) → IsMarked marks place ↔ P place

-- both kinds of links
abbrev pub LinksDown : Book → ℕ → ℕ → Type 0
LinksDown book from to = GoesTo book from to ⊎ Begins book from to

-- a step goes on to another, or a branch of a step other than the control begins there
abbrev pub LinksBeside : Book → ℕ → ℕ → ℕ → Type 0
LinksBeside book control from to = GoesTo book from to ⊎ (Begins book from to × (from ≢ control))

-- each way of a run to a place leads through a branch of the control
abbrev pub LeadsThrough : Book → ℕ → ℕ → Type 0
LeadsThrough book control place = ¬ Closure (Contains (start_places book)) (LinksBeside book control) place

-- the place is one of these, or it is told that it is inside one
abbrev pub IsBehind : List (Option ℕ) → List ℕ → ℕ → Type 0
IsBehind nests controls place = (control : ℕ) × Contains controls control × ((control ≡ place) ⊎ IsInside nests place control)

-- the places to which a step goes on, by what was read of it
abbrev pub next_row : Parts → List ℕ
next_row parts = option_to_list parts.completion ++ option_to_list parts.success ++ option_to_list parts.failure

-- the chart has the links of the book
pub record IsChartOf (book : Book) (chart : Chart) : Type 0 where
  pub next_are : chart.next.items ≡ map (λ step. places_of book (next_keys step)) book.steps
  pub heads_are : chart.heads.items ≡ map (λ step. places_of book (head_keys step.kind)) book.steps
  pub starts_are : chart.starts ≡ start_places book
  pub next_within : IsWithin (length book.steps) chart.next.items
  pub heads_within : IsWithin (length book.steps) chart.heads.items
  pub starts_within : All (λ place. place < length book.steps) chart.starts
  pub back_next_within : IsWithin (length book.steps) chart.back_next.items
  pub back_next_are : IsReverse chart.next.items chart.back_next.items
  pub back_heads_within : IsWithin (length book.steps) chart.back_heads.items
  pub back_heads_are : IsReverse chart.heads.items chart.back_heads.items
  pub reach_are : AreMarksOf (Closure (Contains (start_places book)) (LinksDown book)) chart.reach
  pub declarers_are : AreDeclarersOf book chart.declarers
  pub nests_tell : (place control : ℕ) → IsInside chart.nests place control → LeadsThrough book control place

-- the table has the regions of the book
pub record AreRegionsOf (book : Book) (regions : Regions) : Type 0 where
  pub main : AreMarksOf (InMain book) regions.main
  pub controls : (control : ℕ) → AreMarksOf (InRegion book control) (slice_index_or regions.controls.items control [])

-- a search begins at the heads of the chosen steps, and where a run begins if that is chosen too
abbrev pub BeginsChosen : Book → List Bool → Bool → ℕ → Type 0
BeginsChosen book chosen at_start place =
    (IsTrue at_start × Contains (start_places book) place) ⊎ ((control : ℕ) × Begins book control place × IsMarked chosen control)

-- a step goes on to another, or a branch of a step begins there that does not declare the name
abbrev pub FlowsPast : Book → List Bool → ℕ → ℕ → Type 0
FlowsPast book declaring from to = GoesTo book from to ⊎ (Begins book from to × IsOpen declaring from)
