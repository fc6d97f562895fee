-- Promise: Regions, and what a step sees.
use Rattle.std.specs.Prelude.{◌≡◌, ◌⊎◌, ℕ, List, Contains, Option, Some, None}
use Rattle.cacao_vars.specs.declared.declarations.Var.{Var}
use Rattle.cacao_vars.specs.Declarations.{declared}
use Rattle.cacao_book.specs.declared.books.Book.{Book}
use Rattle.base_graphs.specs.Closure.{Closure}
use Rattle.cacao_check_steps.specs.Links.{start_places, GoesTo, Begins, declares}

-- The main region: the least set that holds where a run begins, at the start and at an exception, and is closed under the links that go on.
abbrev pub InMain : Book → ℕ → Type 0
InMain book = Closure (Contains (start_places book)) (GoesTo book)

-- The region of a control step: the same from the heads of its branches. Of other steps it is empty.
abbrev pub InRegion : Book → ℕ → ℕ → Type 0
InRegion book control = Closure (Begins book control) (GoesTo book)

-- What the step at a place may see of a name: a declaration, or None where there may be none. It is the least relation with three cases. A
-- step that declares the name sees its own declaration alone. Any other sees what the control steps see in whose regions it stands. In the
-- main region it also sees what the book has of the name: its declaration, or that it has none.
pub data Sees (book : Book) (name : List ℕ) : ℕ → Option Var → Type 0 where
  own : {place : ℕ} {var : Var} → declares book name place ≡ Some var → Sees book name place (Some var)
  around : {place control : ℕ} {seen : Option Var} → declares book name place ≡ None → InRegion book control place
      → Sees book name control seen → Sees book name place seen
  outermost : {place : ℕ} → declares book name place ≡ None → InMain book place
      → Sees book name place (declared book.variables name)

-- the step stands in a region
abbrev pub IsPlaced : Book → ℕ → Type 0
IsPlaced book place = InMain book place ⊎ ((control : ℕ) × InRegion book control place)

-- What a control step encloses: the steps of its region, and what those enclose.
pub data Encloses (book : Book) : ℕ → ℕ → Type 0 where
  within : {control place : ℕ} → InRegion book control place → Encloses book control place
  deeper : {control inner place : ℕ} → InRegion book control inner → Encloses book inner place → Encloses book control place

-- ---- what a run keeps

-- What may stand outside a place, whatever its own step declares: what a control step sees in whose region it stands, or in the main region
-- what the book has.
pub data Outside (book : Book) (name : List ℕ) : ℕ → Option Var → Type 0 where
  region : {place control : ℕ} {seen : Option Var} → InRegion book control place → Sees book name control seen
      → Outside book name place seen
  main : {place : ℕ} → InMain book place → Outside book name place (declared book.variables name)

-- the nearer of an inner and an outer declaration
abbrev pub nearer : Option Var → Option Var → Option Var
nearer (Some var) outer = Some var
nearer None outer = outer

-- A run begins outside with what the book has; going on keeps what stands outside; a branch stands inside its control step; and a step sees
-- its own declaration, or what stands outside.
pub record ScopesAgree : Type 0 where
  pub starts : (book : Book) (name : List ℕ) (place : ℕ) → Contains (start_places book) place
      → Outside book name place (declared book.variables name)
  pub goes_on : (book : Book) (name : List ℕ) (from to : ℕ) (seen : Option Var) → GoesTo book from to
      → Outside book name from seen → Outside book name to seen
  pub branches : (book : Book) (name : List ℕ) (control head : ℕ) (seen : Option Var) → Begins book control head
      → Outside book name control seen → Outside book name head (nearer (declares book name control) seen)
  pub sees : (book : Book) (name : List ℕ) (place : ℕ) (seen : Option Var) → Outside book name place seen
      → Sees book name place (nearer (declares book name place) seen)
