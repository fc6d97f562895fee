-- Promise: The runs of a fleet, those beside them, and when their agreement is kept.
use Rattle.std.specs.Prelude.{◌≡◌, ◌≢◌, ℕ, ◌<◌, ◌≤◌, ◌^◌, List, length, Some, IsSome, IsTrue, slice_get}
use Rattle.cacao_site.specs.View.{SiteView}
use Rattle.flow_laws.specs.Beats.{Among}
use Rattle.flow_laws.specs.Fresh.{IsFresh}
use Rattle.flow_laws.specs.Held.{Speech}
use Rattle.flow_laws.specs.Images.{AnyJournal}
use Rattle.flow_laws.specs.Journals.{run_of}
use Rattle.flow_laws.specs.Sessions.{IsStart}
use Rattle.flow_laws.specs.Since.{AgreedSince}
use Rattle.flow_fleet_laws.specs.Speeches.{Form, numbered, most_runs}
use Rattle.cacao_site.specs.RunViews.{file_of}
use Rattle.flow_fleet_laws.specs.Views.{seen_from}

-- the run with this number has this place
abbrev pub IsAt : List ℕ → ℕ → ℕ → Type 0
IsAt runs place run = slice_get runs place ≡ Some run

-- the numbers of runs that speak so side by side, by place: each of 64 bits, and each once
pub record AreRuns (form : Form) (runs : List ℕ) : Type 0 where
  pub few : length runs ≤ most_runs form
  pub small : (place run : ℕ) → IsAt runs place run → run < 2 ^ 64
  pub once : (place other run : ℕ) → IsAt runs place run → IsAt runs other run → other ≡ place

-- at this beat the journal at a place is of the run with this number: no image of it stands for records of another number
abbrev pub IsOwnAt : SiteView → ℕ → ℕ → ℕ → Type 0
IsOwnAt site beat place run =
    AnyJournal (seen_from place site) beat (λ records. (other : ℕ) → run_of records ≡ Some other → other ≡ run)

-- so it is now
abbrev pub IsItsOwn : SiteView → ℕ → ℕ → Type 0
IsItsOwn site place run = IsOwnAt site site.disk.beat place run

-- all agrees at each beat of a call, as the run at this place sees it
abbrev pub KeepsOne : (ℕ → Speech) → SiteView → SiteView → ℕ → ℕ → Type 0
KeepsOne how start site place run = AgreedSince (how run) (seen_from place start) (seen_from place site)

-- ---- of a fleet, whose lines have numbers

-- A fleet may begin here, under fresh numbers: the rack tells its files and its parcels, and each of the runs may begin, as it
-- sees the rack.
pub record IsFleetStart (site : SiteView) (runs : List ℕ) : Type 0 where
  pub told : IsTrue site.disk.told
  pub puts : IsSome site.link.puts
  pub pending : IsSome site.link.pending
  pub start : (place run : ℕ) → IsAt runs place run → IsStart (numbered run) (seen_from place site)
  pub fresh : (place run : ℕ) → IsAt runs place run → IsFresh (seen_from place site) run site.disk.beat

-- all agrees at each beat of the call, for each run, with the same acts of filters and the one list of parcels
abbrev pub KeepsEach : List ℕ → SiteView → SiteView → Type 0
KeepsEach runs start site = (place run : ℕ) → IsAt runs place run → KeepsOne numbered start site place run

-- ---- of runs beside it

-- A run that takes no part: it has a place and a number that none of these runs has, its journal is its own, and it may begin.
pub record IsBystander (runs : List ℕ) (start : SiteView) (place run : ℕ) : Type 0 where
  pub low : place ≤ 15
  pub small : run < 2 ^ 64
  pub elsewhere : length runs ≤ place
  pub other : (taken number : ℕ) → IsAt runs taken number → number ≢ run
  pub own : IsItsOwn start place run
  pub begins : IsStart (numbered run) (seen_from place start)

-- all agrees for it at each beat, and its journal then has no image that it did not have at the start
pub record KeepsBystander (start site : SiteView) (place run : ℕ) : Type 0 where
  pub agrees : KeepsOne numbered start site place run
  pub journal : (beat : ℕ) → start.disk.beat ≤ beat → beat ≤ site.disk.beat
      → Among (file_of place) start start.disk.beat site beat
