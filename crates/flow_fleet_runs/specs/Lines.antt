-- Promise: The lines that a fleet says: those of the records that it appended, in order, each behind its run's number.
use Rattle.std.specs.Prelude.{◌≡◌, ℕ, ◌+◌, ◌≤◌, ◌==◌, false, List, [], ◌∷◌, ◌++◌, length, take, Option, Some, None, slice_get, if◌then◌else◌}
use Rattle.std.specs.Option.{option_map_or}
use Rattle.cacao_site.specs.LinkCalls.{GainsAll}
use Rattle.run_records.specs.declared.record.Record.{Record}
use Rattle.flow_engine_history.specs.Histories.{IsLineAt}
use Rattle.flow_engine.specs.EngineView.{EngineView}
use Rattle.flow_world_steps.specs.Sums.{owed_lines}
use Rattle.flow_world_steps.specs.Worlds.{owes_line}
use Rattle.flow_fleet_laws.specs.Fleets.{AreRuns}
use Rattle.flow_fleet_laws.specs.Speeches.{head_of}
use Rattle.flow_fleet_laws.specs.Speeches.Form.{with_numbers}
use Rattle.flow_fleet_steps.specs.Openings.{IsFleetOpened, Runs, numbers}
use Rattle.flow_fleet_steps.specs.Steps.{FleetSteps}
use Rattle.flow_fleet_steps.specs.Worlds.{FleetWorld}
use Rattle.flow_fleet_sums.specs.Sums.{FleetAdds, of_place}
use Rattle.flow_fleet_runs.specs.Came.{AppendedAt}

-- ---- of all runs together

-- One call appended this record, when these had been appended since the first of the worlds, and no other.
pub record AppendedBehind (front : List (ℕ × Record)) (e : ℕ × Record) (a b : FleetWorld) : Type 0 where
  pub by : AppendedAt e.0 e.1 a b
  pub adds : FleetAdds a by.old
  pub are : adds.added ≡ front

-- The bytes are the run's number, a space, and the line of the k-th of the appended records: it stands in the journal of its run
-- behind those that stood there and those that were appended there before it.
pub record IsLineOf (a b : FleetWorld) (added : List (ℕ × Record)) (k : ℕ) (bytes : List ℕ) : Type 0 where
  pub place : ℕ
  pub r : Record
  pub appended : slice_get added k ≡ Some (place, r)
  pub v : EngineView
  pub w : EngineView
  pub there : slice_get a.engines place ≡ Some v
  pub here : slice_get b.engines place ≡ Some w
  pub line : List ℕ
  pub line_is : IsLineAt w.history (length v.history.records + length (of_place place (take k added))) line
  pub of_it : line_is.it ≡ r
  pub is : bytes ≡ head_of w.history.seen.run ++ line

-- The lines said are those of these records, in their order. Where a line is owed or was not said, it is that of the last one.
pub record FleetSpeaks (a b : FleetWorld) (added : List (ℕ × Record)) : Type 0 where
  pub said : List (ℕ × List ℕ)  -- each with the beat at which it was said
  pub says : GainsAll a.site.link.said said b.site.link.said
  pub many : length said + owed_lines b.phase ≡ length added
  pub lines : (k : ℕ) (e : ℕ × List ℕ) → slice_get said k ≡ Some e → IsLineOf a b added k e.1

-- The appended records, in the order in which they were appended, and their lines.
pub record FleetTells (a b : FleetWorld) : Type 0 where
  pub adds : FleetAdds a b
  pub in_order : (front back : List (ℕ × Record)) (e : ℕ × Record) → adds.added ≡ front ++ e ∷ back → AppendedBehind front e a b
  pub speaks : FleetSpeaks a b adds.added

abbrev pub EachFleetTells : Type 0
EachFleetTells = (a b : FleetWorld) → owes_line a.phase ≡ false → FleetSteps a b → FleetTells a b

-- ---- of one run

-- what stands behind these bytes, where the line begins with them
abbrev pub behind : List ℕ → List ℕ → Option (List ℕ)
behind [] line = Some line
behind (x ∷ head) [] = None
behind (x ∷ head) (y ∷ line) = if x == y then behind head line else None

-- of lines with their beats, those that begin with this run's number and a space, without these
abbrev pub lines_of : ℕ → List (ℕ × List ℕ) → List (List ℕ)
lines_of run [] = []
lines_of run (e ∷ said) = option_map_or (λ line. line ∷ lines_of run said) (behind (head_of run) e.1) (lines_of run said)

-- The lines said with the number of a run are those of the records that were appended to its journal, in order; the last record
-- may lack its line, where one is owed or was not said.
pub record FleetSpeaksAt (a b : FleetWorld) (v w : EngineView) : Type 0 where
  pub said : List (ℕ × List ℕ)
  pub says : GainsAll a.site.link.said said b.site.link.said
  pub lacks : ℕ
  pub few : lacks ≤ owed_lines b.phase
  pub many : length v.history.records + length (lines_of v.history.seen.run said) + lacks ≡ length w.history.records
  pub lines : (k : ℕ) (line : List ℕ) → slice_get (lines_of v.history.seen.run said) k ≡ Some line
      → IsLineAt w.history (length v.history.records + k) line

-- So it is of each run, from the opening of the files on, where the numbers are distinct.
abbrev pub EachFleetSpeaksAt : Type 0
EachFleetSpeaksAt =
    (a b : FleetWorld) (runs : Runs) (most : ℕ) → IsFleetOpened a runs most → AreRuns with_numbers (numbers runs) → FleetSteps a b
    → (place : ℕ) (v w : EngineView) → slice_get a.engines place ≡ Some v → slice_get b.engines place ≡ Some w
    → FleetSpeaksAt a b v w
