-- Promise: What a call of the program does whose words ask for a fleet.
use Rattle.std.specs.Prelude.{◌≡◌, ◌≢◌, ◌⊎◌, ℕ, List, [], ◌∷◌, map, Option, Some, None, IfSome, IsTrue, ⊤}
use Rattle.cacao_site.specs.View.{SiteView}
use Rattle.flow_laws.specs.Good.{IsGood}
use Rattle.flow_fleet_laws.specs.Fleets.{IsAt, IsFleetStart, KeepsEach}
use Rattle.flow_fleet_laws.specs.Views.{seen_from}
use Rattle.cacao_cli_words.specs.Requests.{FleetRequest}
use Rattle.cacao_cli_ends.specs.Comes.{IsOneOf}
use Rattle.cacao_cli_ends.specs.Files.{ShelfCall}
use Rattle.cacao_cli_fleets.specs.FleetEnds.{FleetEnd, TellsFleet}
use Rattle.cacao_cli_fleets.specs.Fleeting.{GoesAsFleet}

-- what the call did, up to its last line, which was then said
pub record EndedFleet (wanted : FleetRequest) (shelf : ShelfCall) (old new : SiteView) (answer : ℕ) : Type 0 where
  pub last : FleetEnd
  pub between : SiteView
  pub goes : GoesAsFleet wanted shelf old between last
  pub tells : TellsFleet last between new answer

-- memory was wanted for the words, and nothing was done
pub record WantsForWords (shelf : ShelfCall) (old new : SiteView) (answer : ℕ) : Type 0 where
  pub same : new ≡ old
  pub reads : shelf.reads_after ≡ shelf.reads_before
  pub faults : shelf.after ≡ shelf.before
  pub answers : answer ≡ 10

abbrev pub EndsWithFleet : Option FleetRequest → ShelfCall → SiteView → SiteView → ℕ → Type 0
EndsWithFleet None shelf old new answer = ⊤
EndsWithFleet (Some wanted) shelf old new answer = EndedFleet wanted shelf old new answer ⊎ WantsForWords shelf old new answer

-- the numbers of the runs, by place
abbrev pub run_numbers : FleetRequest → List ℕ
run_numbers wanted = map (λ pair. pair.0) wanted.runs

-- The headline, for each run of a fleet: where all agrees for each when the call begins, and its number is fresh, all that a crash may
-- leave agrees for it at each beat, whatever the status.
abbrev pub KeepsRuns : Option FleetRequest → SiteView → SiteView → Type 0
KeepsRuns asked old new = IfSome asked (λ wanted. IsFleetStart old (run_numbers wanted) → KeepsEach (run_numbers wanted) old new)

-- it answers its own statuses alone
abbrev pub fleet_statuses : List ℕ
fleet_statuses = 0 ∷ 1 ∷ 3 ∷ 4 ∷ 5 ∷ 6 ∷ 7 ∷ 8 ∷ 9 ∷ 10 ∷ 11 ∷ 12 ∷ 13 ∷ 14 ∷ 15 ∷ 16 ∷ []

abbrev pub IsFleetStatus : Option FleetRequest → ℕ → Type 0
IsFleetStatus asked answer = IfSome asked (λ wanted. IsOneOf answer fleet_statuses)

-- all that a crash may leave now agrees for each run, as it sees the rack
abbrev pub AgreesForEach : FleetRequest → SiteView → Type 0
AgreesForEach wanted site = (place run : ℕ) → IsAt (run_numbers wanted) place run → IsGood (seen_from place site) site.disk.beat

-- where it does when the call begins, no file is told as damaged
abbrev pub FindsNoDamage : Option FleetRequest → SiteView → ℕ → Type 0
FindsNoDamage asked old answer = IfSome asked (λ wanted. IsTrue old.disk.told → AgreesForEach wanted old → answer ≢ 13)
