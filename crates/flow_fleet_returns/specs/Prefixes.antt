-- Promise: A fleet takes each of its runs to a run that has it as a prefix.
use Rattle.std.proofs.Common.{inl, inr}
use Rattle.std.specs.Prelude.{◌≡◌, ◌≢◌, ℕ, ◌<◌, ◌≤◌, List, [], ◌++◌, length, All}
use Rattle.std.specs.List.{AllByRecursion}
use Rattle.cacao_site.specs.Counts.{DidNotRise}
use Rattle.cacao_site.specs.DiskCalls.{IsLeft}
use Rattle.cacao_site.specs.Sound.{IsSound}
use Rattle.cacao_site.specs.View.{SiteView}
use Rattle.run_records.specs.declared.record.Record.{Record}
use Rattle.flow_laws.specs.Images.{IsRecords}
use Rattle.flow_world_steps.specs.Sums.{IsBetween}
use Rattle.flow_world_laws.specs.Prefixes.{GoesOn}
use Rattle.flow_fleet_laws.specs.Fleets.{IsAt, IsFleetStart, KeepsEach}
use Rattle.flow_fleet_laws.specs.Views.{seen_from}
use Rattle.flow_fleet_steps.specs.Openings.{RefusesFleetOpening, Runs, numbers}
use Rattle.flow_fleet_steps.specs.declared.close.FleetClose.{FleetClose}
use Rattle.flow_fleet_steps.specs.declared.error.FleetError.{FleetError}
use Rattle.flow_fleet_sums.specs.Sums.{of_place}
use Rattle.flow_fleet.specs.Fleets.{FleetClosed, FleetRefused}

-- What a fleet did to the run at a place, as that run sees the rack: it took it to a run that has it as its front, and what was
-- added are the records of that place among all that were `added`, each at a moment of the call. The journals below `opened` were
-- opened; the one at `opened`, if there is such a run, was tried. But for that one, each journal read at the start as the run of
-- then. Where no call of the disk failed, each image that a crash may leave on return of a journal that was opened stands for the
-- run of now.
pub record RunGoesOn (most opened : ℕ) (added : List (ℕ × Record)) (old new : SiteView) (place : ℕ) : Type 0 where
  pub goes_on : GoesOn most (seen_from place old) (seen_from place new)
  pub is : goes_on.added ≡ of_place place added
  pub moments : All (IsBetween old.clock.now new.clock.now) goes_on.added
  pub was_read : place ≢ opened → IsRecords ((seen_from place old).disk.reads 0) goes_on.before
  pub durable : place < opened → DidNotRise old.disk.faults new.disk.faults → (image : List ℕ)
      → IsLeft (seen_from place new).disk 0 new.disk.beat image → IsRecords image (goes_on.before ++ goes_on.added)

-- What a fleet did to all of its runs. `added` are the records that were appended, of all runs together, each with the place
-- of its run, which is one of the fleet's: at most as many as the fleet may append.
pub record FleetGoesOn (opened : ℕ) (runs : Runs) (most : ℕ) (old new : SiteView) : Type 0 where
  pub added : List (ℕ × Record)
  pub few : length added ≤ most
  pub placed : AllByRecursion (λ (e : ℕ × Record). e.0 < length runs) added
  pub each : (place run : ℕ) → IsAt (numbers runs) place run → RunGoesOn most opened added old new place

-- the same of a fleet that did not open all files: it added nothing
pub record FleetAddsNothing (opened : ℕ) (runs : Runs) (most : ℕ) (old new : SiteView) : Type 0 where
  pub goes_on : FleetGoesOn opened runs most old new
  pub none : goes_on.added ≡ []

-- how many journals were opened
abbrev pub opened_first : {error : FleetError} {runs : Runs} {old new : SiteView} → RefusesFleetOpening error runs old new → ℕ
opened_first (inl journal) = journal.place
opened_first {error} {runs} {old} {new} (inr filter) = length runs

abbrev pub opened_by : {error : FleetError} {runs : Runs} {most : ℕ} {old new : SiteView}
    → FleetRefused error runs most old new → ℕ
opened_by (inl opening) = opened_first opening
opened_by {error} {runs} {most} {old} {new} (inr later) = length runs

-- a fleet that ends so did this, from a start where all agreed
abbrev pub FromAFleetStart : (Ends : Runs → ℕ → SiteView → SiteView → Type 0)
    → ((runs : Runs) (most : ℕ) (old new : SiteView) → Ends runs most old new → Type 0) → Type 0
FromAFleetStart Ends Does =
    (runs : Runs) (most : ℕ) (old new : SiteView) → IsSound old → IsSound new → IsFleetStart old (numbers runs)
    → KeepsEach (numbers runs) old new → (ends : Ends runs most old new) → Does runs most old new ends

-- So goes each fleet that closed, and each that refused: while its files were opened, where nothing was added, or later.
abbrev pub EachFleetCloseGoesOn : Type 0
EachFleetCloseGoesOn = (close : FleetClose)
    → FromAFleetStart (FleetClosed close) (λ runs most old new is. FleetGoesOn (length runs) runs most old new)

abbrev pub EachFleetRefusalGoesOn : Type 0
EachFleetRefusalGoesOn = (error : FleetError)
    → FromAFleetStart (FleetRefused error) (λ runs most old new is. FleetGoesOn (opened_by is) runs most old new)

abbrev pub EachRefusedFleetOpeningAddsNothing : Type 0
EachRefusedFleetOpeningAddsNothing = (error : FleetError)
    → FromAFleetStart (λ runs most. RefusesFleetOpening error runs)
    (λ runs most old new is. FleetAddsNothing (opened_first is) runs most old new)
