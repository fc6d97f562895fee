-- Promise: The picture of playbooks, as lines of DOT, perhaps with what a run marks at their steps.
use Rattle.std.specs.Prelude.{◌≡◌, ℕ, List, map, All, Option, Some, None, slice_get}
use Rattle.serde_json.specs.Data.{Data}
use Rattle.cacao_book.specs.Books.{book}
use Rattle.cacao_book_shape.specs.Shape.{workflow}
use Rattle.cacao_view_graph.specs.Drawings.{Drawn, DrawnBook, statements}
use Rattle.cacao_view_graph.specs.Homes.{IsHome}
use Rattle.cacao_view_graph.specs.Marks.{notes_at, pale_at}
use Rattle.cacao_view_graph.specs.Statements.{line_of}
use Rattle.cacao_view_graph.specs.declared.marks.Marks.{Marks}

-- these are the steps of a playbook, each with its home
pub record IsDrawn (drawn : DrawnBook) : Type 0 where
  pub members : map (λ step. step.member) drawn.steps ≡ workflow drawn.tree
  pub homes : (place : ℕ) (step : Drawn) → slice_get drawn.steps place ≡ Some step → IsHome (book drawn.tree) place step.home

-- the playbooks of these trees, and nothing else
pub record AreDrawn (trees : List Data) (drawn : List DrawnBook) : Type 0 where
  pub trees_are : map (λ d. d.tree) drawn ≡ trees
  pub each : All IsDrawn drawn

-- the step with this number of the playbook with that has the marks of the run, if there is one
pub record IsMarked (marks : Option Marks) (number place : ℕ) (step : Drawn) : Type 0 where
  pub notes : step.notes ≡ notes_at marks number place
  pub pale : step.pale ≡ pale_at marks number place

abbrev pub AreStepsMarked : Option Marks → ℕ → List Drawn → Type 0
AreStepsMarked marks number steps = (place : ℕ) (step : Drawn) → slice_get steps place ≡ Some step → IsMarked marks number place step

-- so has each step of each playbook
abbrev pub AreMarked : Option Marks → List DrawnBook → Type 0
AreMarked marks drawn = (number : ℕ) (d : DrawnBook) → slice_get drawn number ≡ Some d → AreStepsMarked marks number d.steps

-- the lines of what is drawn
abbrev pub picture_of : List DrawnBook → List (List ℕ)
picture_of drawn = map line_of (statements drawn)

-- the lines are the picture of the playbooks of these trees, with what the run marks at their steps, if there is one
abbrev pub IsMarkedPicture : Option Marks → List Data → List (List ℕ) → Type 0
IsMarkedPicture marks trees lines =
    (drawn : List DrawnBook) × AreDrawn trees drawn × AreMarked marks drawn × (lines ≡ picture_of drawn)

-- the same without a run
abbrev pub IsPicture : List Data → List (List ℕ) → Type 0
IsPicture trees lines = IsMarkedPicture None trees lines
