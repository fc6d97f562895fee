-- Promise: What each end of a wire keeps at each beat of its session so far.
use Rattle.std.specs.Prelude.{ℕ, ◌≤◌, nat_lt, IsSome, IsTrue, List, length, map, filter, drop}
use Rattle.cacao_site.specs.View.{SiteView}
use Rattle.cacao_site.specs.declared.parcel.Parcel.{Parcel}
use Rattle.flow_laws.specs.Images.{told_list}
use Rattle.oc2_wire_laws.specs.Ends.{EngineKeeps, FiltersKeep}

-- how many parcels were taken so far
abbrev pub takes_of : SiteView → ℕ
takes_of site = length (told_list site.link.taken)

-- The parcels that a session took before this beat: of the parcels taken past the first ones, whose number is what the site had
-- when the session began. A parcel that is taken at a beat can be answered in a file at a later one alone.
abbrev pub taken_before : ℕ → SiteView → ℕ → List Parcel
taken_before first site beat =
    map (λ (entry : ℕ × Parcel). entry.1)
    (filter (λ (entry : ℕ × Parcel). nat_lt entry.0 beat) (drop first (told_list site.link.taken)))

-- The end of the engine, at each beat from the start on. It has got what it took before that beat. The disk, the parcels put and
-- those taken are told.
pub record EngineKeepsSince (start : SiteView) (run : ℕ) (site : SiteView) : Type 0 where
  pub told : IsTrue site.disk.told
  pub puts : IsSome site.link.puts
  pub taken : IsSome site.link.taken
  pub later : start.disk.beat ≤ site.disk.beat
  pub each : (beat : ℕ) → start.disk.beat ≤ beat → beat ≤ site.disk.beat
      → EngineKeeps start run (taken_before (takes_of start) site beat) site beat

-- the same of the end of the filters
pub record FiltersKeepSince (start site : SiteView) : Type 0 where
  pub told : IsTrue site.disk.told
  pub puts : IsSome site.link.puts
  pub taken : IsSome site.link.taken
  pub later : start.disk.beat ≤ site.disk.beat
  pub each : (beat : ℕ) → start.disk.beat ≤ beat → beat ≤ site.disk.beat
      → FiltersKeep start (taken_before (takes_of start) site beat) site beat
