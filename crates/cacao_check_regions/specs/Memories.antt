-- Scaffold: What was searched for already.
use Rattle.std.specs.Prelude.{◌≡◌, ◌↔◌, ℕ, Bool, false, List, All, Contains, IsSome, IsSomeAnd, Some, slice_get, slice_index_or}
use Rattle.cacao_vars.specs.Declarations.{declared}
use Rattle.cacao_book.specs.declared.books.Book.{Book}
use Rattle.cacao_check_regions.specs.declared.memory.Memory.{Memory}
use Rattle.cacao_check_regions.specs.declared.memory.Recall.{Recall}
use Rattle.cacao_check_regions.specs.declared.searches.Search.{Search}
use Rattle.cacao_check_regions.specs.declared.searches.Sources.{Sources}
use Rattle.cacao_check_regions.specs.declared.flaws.Flaw.{Flaw}
use Rattle.cacao_check_steps.specs.Links.{declares}
use Rattle.cacao_check_regions.specs.Charts.{AreMarksOf}
use Rattle.cacao_check_regions.specs.Flaws.{is_flawed, HasOwnFlaw, SeesFlaw}

-- these steps declare the name, these of them with the flaw, and what the book has of it has the flaw or has it not
pub record AreSourcesOf (book : Book) (name : List ℕ) (flaw : Flaw) (sources : Sources) : Type 0 where
  pub declaring : (place : ℕ) → Contains sources.declaring place ↔ IsSome (declares book name place)
  pub flawed : (place : ℕ) → Contains sources.flawed place ↔ HasOwnFlaw book name flaw place
  pub at_start : sources.at_start ≡ is_flawed flaw (declared book.variables name)

-- the marks are those of the steps that see the flaw, for each name and flaw with these sources
abbrev pub AreSeenFrom : Book → Sources → List Bool → Type 0
AreSeenFrom book sources marks =
    (name : List ℕ) (flaw : Flaw) → AreSourcesOf book name flaw sources → AreMarksOf (SeesFlaw book name flaw) marks

-- a search found exactly those
abbrev pub IsExact : Book → Search → Type 0
IsExact book search = AreSeenFrom book search.sources search.marks

-- the search at a place of the list found exactly the steps that see the flaw of the name
abbrev pub Serves : Book → List Search → ℕ → List ℕ → Flaw → Type 0
Serves book searches at name flaw = IsSomeAnd (slice_get searches at)
    (λ search. AreMarksOf (SeesFlaw book name flaw) search.marks)

-- no search was taken out or moved
abbrev pub Grows : List Search → List Search → Type 0
Grows old new = (at : ℕ) (search : Search) → slice_get old at ≡ Some search → slice_get new at ≡ Some search

-- each search that is remembered is exact in this book, and each name and flaw has the search that serves it
pub record Remembers (book : Book) (memory : Memory) : Type 0 where
  pub searches : All (IsExact book) memory.searches.items.items
  pub recalls : All (λ recall. Serves book memory.searches.items.items recall.search recall.name recall.flaw) memory.recalls.items

-- the search for the name and the flaw told this of the place
abbrev pub IsRecalled : Memory → List ℕ → Flaw → ℕ → Bool → Type 0
IsRecalled memory name flaw place sees =
    (recall : Recall) × Contains memory.recalls.items recall × (recall.name ≡ name) × (recall.flaw ≡ flaw)
    × IsSomeAnd (slice_get memory.searches.items.items recall.search) (λ search. sees ≡ slice_index_or search.marks place false)
