-- Promise: What the last call of a fleet may have left behind a journal, or behind the acts of a filter: which record or act, and why.
use Rattle.std.specs.Prelude.{◌≡◌, ℕ, ◌≤◌, false, Some, None, slice_get}
use Rattle.cacao_site.specs.declared.parcel.Parcel.{Parcel}
use Rattle.run_records.specs.declared.act.Act.{Act}
use Rattle.run_records.specs.declared.record.Record.{Record}
use Rattle.flow_core_rules.specs.Changes.{moment_of}
use Rattle.flow_engine_history.specs.HistoryCalls.{Is, Offers}
use Rattle.flow_engine.specs.EngineView.{EngineView}
use Rattle.slpf_actuator.specs.ActuatorView.{ActuatorView, act_for}
use Rattle.slpf_actuator.specs.declared.error.ActError.{ActError}
use Rattle.flow_world_steps.specs.Steps.{FailsToAct, MayHaveActed}
use Rattle.flow_world_steps.specs.Worlds.{Cause, disk_failed, refused}
use Rattle.flow_fleet_laws.specs.Views.{seen_from}
use Rattle.flow_fleet_steps.specs.Openings.{IsFleetOpened, Runs}
use Rattle.flow_fleet_steps.specs.Steps.{FiltersDo, FleetStep, FleetSteps}
use Rattle.flow_fleet_steps.specs.Worlds.{FleetWorld, part}
use Rattle.flow_fleet_runs.specs.Came.{BeginsAsGiven, ShowsWhy}

-- ---- a journal

-- The last call offered the record to the journal at this place, behind those that stand there, and the disk failed meanwhile: an
-- image may have it or not. It bears the moment of that call, which tells why it came, as of a record that was appended.
pub record OfferedAt (place : ℕ) (r : Record) (a b : FleetWorld) : Type 0 where
  pub old : FleetWorld
  pub before : FleetSteps a old
  pub step : FleetStep old b
  pub v : EngineView
  pub w : EngineView
  pub there : slice_get old.engines place ≡ Some v
  pub here : slice_get b.engines place ≡ Some w
  pub same : w.history.records ≡ v.history.records
  pub offers : Offers v.history (Is r) (seen_from place old.site) (seen_from place b.site)
  pub moment : moment_of r ≡ old.site.clock.now
  pub why : ShowsWhy r place v old
  pub budget : 1 ≤ b.notes.left
  pub phase : b.phase ≡ refused disk_failed false
  pub place_is : b.place ≡ place

-- and the run there had its number, and what it was given
pub record FleetOffered (a b : FleetWorld) (place : ℕ) (from : EngineView) (r : Record) : Type 0 where
  pub by : OfferedAt place r a b
  pub run : by.v.history.seen.run ≡ from.history.seen.run
  pub given : by.v.history.seen.given ≡ from.history.seen.given

-- So came each record that may stand behind those of a run, where none might when the fleet began.
abbrev pub EachFleetOffered : Type 0
EachFleetOffered =
    (a b : FleetWorld) → FleetSteps a b → (place : ℕ) (v : EngineView) (r : Record) → slice_get a.engines place ≡ Some v
    → (a.own place).unsure ≡ None → (b.own place).unsure ≡ Some r → FleetOffered a b place v r

-- From the opening of a fleet's files on such a Begin has the number of the run at that place, and the texts that it was given.
abbrev pub EachOfferedBegin : Type 0
EachOfferedBegin =
    (a b : FleetWorld) (runs : Runs) (most : ℕ) → IsFleetOpened a runs most → FleetSteps a b → (place : ℕ) (v : EngineView) (r : Record)
    → slice_get a.engines place ≡ Some v → (b.own place).unsure ≡ Some r → BeginsAsGiven runs place r

-- ---- a filter's file

-- The filter of an agent refused in the last call, with a command in hand, and it may have appended this act on it.
pub record OfferedByFilter (a b : FleetWorld) (e : ℕ × Act) : Type 0 where
  pub old : FleetWorld
  pub before : FleetSteps a old
  pub beat : ℕ
  pub parcel : Parcel
  pub v : ActuatorView
  pub w : ActuatorView
  pub error : ActError
  pub cause : Cause
  pub fails : FiltersDo (FailsToAct beat parcel v w error cause) old b
  pub acted : MayHaveActed parcel v (part 0 fails.v (old.own 0) old) (part 0 fails.v (old.own 0) b)
  pub is : e ≡ (parcel.agent, act_for v.acts parcel old.site.clock.now)

-- So came each act that may stand behind those of a filter, where none might when the fleet began.
abbrev pub EachFleetOfferedAct : Type 0
EachFleetOfferedAct =
    (a b : FleetWorld) → FleetSteps a b → (e : ℕ × Act) → a.notes.unsure_act ≡ None → b.notes.unsure_act ≡ Some e
    → OfferedByFilter a b e
