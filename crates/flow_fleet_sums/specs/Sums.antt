-- Promise: What a fleet adds up to, for all of its runs together, from the opening of its files on.
use Rattle.std.specs.Prelude.{◌≡◌, ◌⊎◌, ℕ, ◌+◌, ◌*◌, ◌≤◌, ◌==◌, nat_eq, List, [], ◌∷◌, ◌++◌, All, length, Some, slice_get, if◌then◌else◌}
use Rattle.std.specs.Option.{option_map_or}
use Rattle.cacao_site.specs.Counts.{last_count}
use Rattle.cacao_site.specs.LinkCalls.{GainsAll}
use Rattle.cacao_site.specs.View.{device_calls}
use Rattle.cacao_site.specs.declared.parcel.Parcel.{Parcel}
use Rattle.run_journal.specs.Durable.{header_bytes, header_calls}
use Rattle.run_records.specs.declared.record.Record.{Record}
use Rattle.run_records.specs.declared.record.Record.TheVariants as entry
use Rattle.flow_engine.specs.EngineView.{EngineView}
use Rattle.slpf_actuator.specs.ActuatorView.{ActuatorView}
use Rattle.flow_world_steps.specs.Link.{PutsAreCounted, commands_of}
use Rattle.flow_world_steps.specs.Sides.{times}
use Rattle.flow_world_steps.specs.Sums.{IsBetween, if_going, owed_lines, slack, total}
use Rattle.flow_world_steps.specs.Written.{act_bytes, record_bytes}
use Rattle.flow_fleet_steps.specs.Openings.{IsFleetOpened, Runs}
use Rattle.flow_fleet_steps.specs.Steps.{FleetSteps}
use Rattle.flow_fleet_steps.specs.Worlds.{EachRun, FleetWorld, part}

-- ---- records

abbrev pub records_of : EngineView → ℕ
records_of v = length v.history.records

-- of records with the places of their runs, those of one place
abbrev pub of_place : ℕ → List (ℕ × Record) → List Record
of_place place [] = []
of_place place (e ∷ added) = if e.0 == place then e.1 ∷ of_place place added else of_place place added

-- The run at a place kept its number and what it was given. Behind the records that its journal held stand those that were appended
-- there, each at a moment of the fleet.
pub record AddsAt (place : ℕ) (added : List (ℕ × Record)) (from to : ℕ) (v w : EngineView) : Type 0 where
  pub run : w.history.seen.run ≡ v.history.seen.run
  pub given : w.history.seen.given ≡ v.history.seen.given
  pub is : w.history.records ≡ v.history.records ++ of_place place added
  pub moments : All (IsBetween from to) (of_place place added)

-- The records that were appended, in order, each with the place of its run: as many as fewer are left.
pub record FleetAdds (a b : FleetWorld) : Type 0 where
  pub added : List (ℕ × Record)
  pub many : length b.engines ≡ length a.engines
  pub each : (place : ℕ) (v w : EngineView) → slice_get a.engines place ≡ Some v → slice_get b.engines place ≡ Some w
      → AddsAt place added a.site.clock.now b.site.clock.now v w
  pub all : total records_of b.engines ≡ total records_of a.engines + length added
  pub later : a.site.clock.now ≤ b.site.clock.now
  pub budget : length added + b.notes.left ≡ a.notes.left

-- ---- device calls and bytes

-- the device calls that headers may still take, of the journals and of the filters' files; and the bytes
abbrev pub headers : FleetWorld → ℕ
headers w = total (λ (v : EngineView). header_calls v.history.prepared) w.engines + total (λ (v : ActuatorView). header_calls v.prepared) w.filters

abbrev pub bytes_left : FleetWorld → ℕ
bytes_left w = total (λ (v : EngineView). header_bytes v.history.prepared) w.engines + total (λ (v : ActuatorView). header_bytes v.prepared) w.filters

-- Device calls: of the disk four for each record and act and two for each header, of `say` one for each line; after a refusal
-- five more at most. Those of the disk alone are bounded without the lines.
pub record FleetCosts (a b : FleetWorld) : Type 0 where
  pub calls : device_calls b.site + if_going b.phase (headers b) + owed_lines b.phase + 5 * total records_of a.engines
      + 4 * length a.notes.acted
      ≤ device_calls a.site + if_going a.phase (headers a) + owed_lines a.phase + 5 * total records_of b.engines
      + 4 * length b.notes.acted + slack b.phase
  pub disk : b.site.disk.calls + if_going b.phase (headers b) + 4 * total records_of a.engines + 4 * length a.notes.acted
      ≤ a.site.disk.calls + if_going a.phase (headers a) + 4 * total records_of b.engines + 4 * length b.notes.acted
      + slack b.phase

-- the bytes of a run's records, with their gates
abbrev pub bytes_of : EngineView → ℕ
bytes_of v = total record_bytes v.history.records

-- the record and the act that may have been appended while the disk failed, or a filter refused
abbrev pub unsure_bytes : FleetWorld → ℕ
unsure_bytes w = option_map_or record_bytes (w.own w.place).unsure 0 + option_map_or act_bytes w.notes.unsure_act 0

-- Bytes handed to the disk: those of each entry that was appended, or may have been, and nine for each header.
pub record FleetWrites (a b : FleetWorld) : Type 0 where
  pub written : b.site.disk.written + if_going b.phase (bytes_left b) + total bytes_of a.engines + total act_bytes a.notes.acted
      ≤ a.site.disk.written + if_going a.phase (bytes_left a) + total bytes_of b.engines + total act_bytes b.notes.acted + unsure_bytes b

-- ---- what was put, and what expired

-- how often an issue of a place stands among these
abbrev pub times_at : ℕ → ℕ → List (ℕ × ℕ) → ℕ
times_at place issue [] = 0
times_at place issue (e ∷ lost) = (if e.0 == place then (if nat_eq e.1 issue then 1 else 0) else 0) + times_at place issue lost

-- Of the issues noted as put, of all runs together, all but as many as the count of mishaps rose by are among the link's puts (any,
-- where that count stands at its last value).
pub record FleetPutsOrLost (a b : FleetWorld) : Type 0 where
  pub put : List (ℕ × Parcel)
  pub puts : GainsAll a.site.link.puts put b.site.link.puts
  pub lost : List (ℕ × ℕ)  -- each with the place of its run
  pub later : a.site.counts.mishaps ≤ b.site.counts.mishaps
  pub few : (a.site.counts.mishaps + length lost ≤ b.site.counts.mishaps) ⊎ (last_count ≤ b.site.counts.mishaps)
  pub each : (place : ℕ) (v : EngineView) (issue : ℕ) → slice_get a.engines place ≡ Some v
      → times issue (b.own place).put ≤ times issue (a.own place).put + commands_of v.history.seen.run issue put + times_at place issue lost

-- an Expire is of an issue that was noted as put
abbrev pub ExpiresPut : List ℕ → Record → Type 0
ExpiresPut put r = (issue moment : ℕ) → r ≡ entry.Expire issue moment → 1 ≤ times issue put

-- So is each that was appended, at its place.
abbrev pub ExpiresArePut : List (ℕ × Record) → FleetWorld → Type 0
ExpiresArePut added b = EachRun b.engines (λ place v. All (ExpiresPut (b.own place).put) (of_place place added))

-- No issue of any run was put more than nine times.
abbrev pub FleetPutsAreCounted : FleetWorld → Type 0
FleetPutsAreCounted w = EachRun w.engines (λ place v. PutsAreCounted (part place v (w.own place) w))

-- ---- all

-- From the opening of a fleet's files on: records, device calls, bytes, puts and Expires, of all runs together.
pub record FleetAddsUp (a b : FleetWorld) (runs : Runs) (most : ℕ) : Type 0 where
  pub adds : FleetAdds a b
  pub budget : length adds.added + b.notes.left ≡ most
  pub puts_or_lost : FleetPutsOrLost a b
  pub expires : ExpiresArePut adds.added b
  pub counted : FleetPutsAreCounted b
  pub calls : device_calls b.site + owed_lines b.phase
      ≤ device_calls a.site + 2 * (length runs + 16) + 5 * length adds.added + 4 * length b.notes.acted + 5
  pub disk_calls : b.site.disk.calls
      ≤ a.site.disk.calls + 2 * (length runs + 16) + 4 * length adds.added + 4 * length b.notes.acted + 5
  pub written : b.site.disk.written + total bytes_of a.engines
      ≤ a.site.disk.written + 9 * (length runs + 16) + total bytes_of b.engines + total act_bytes b.notes.acted + unsure_bytes b

abbrev pub EachFleetAddsUp : Type 0
EachFleetAddsUp = (a b : FleetWorld) (runs : Runs) (most : ℕ) → IsFleetOpened a runs most → FleetSteps a b → FleetAddsUp a b runs most
