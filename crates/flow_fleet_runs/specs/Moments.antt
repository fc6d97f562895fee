-- Promise: The moments of what a fleet appends: the clock's at each call, and none earlier than those before it.
use Rattle.std.specs.Prelude.{◌≡◌, ◌⊎◌, ℕ, ◌≤◌, List, ◌∷◌, ◌++◌, All, Some, slice_get}
use Rattle.cacao_site.specs.declared.parcel.Parcel.{Parcel}
use Rattle.run_records.specs.declared.act.Act.{Act}
use Rattle.run_records.specs.declared.record.Record.{Record}
use Rattle.flow_core_rules.specs.Changes.{moment_of}
use Rattle.flow_engine.specs.EngineView.{EngineView}
use Rattle.slpf_actuator.specs.ActLists.{moment_of_last}
use Rattle.slpf_actuator.specs.ActuatorView.{ActuatorView, act_for}
use Rattle.flow_world_steps.specs.Steps.{ActsOn}
use Rattle.flow_fleet_steps.specs.Openings.{IsFleetOpened, Runs}
use Rattle.flow_fleet_steps.specs.Steps.{FiltersDo, FleetSteps}
use Rattle.flow_fleet_steps.specs.Worlds.{FleetWorld}

-- ---- records

-- none of these records is of a later moment
abbrev pub NoneIsLater : ℕ → List Record → Type 0
NoneIsLater moment records = All (λ r. moment_of r ≤ moment) records

-- The moment of each record of a run is no earlier than that of any record before it in the journal. (That of one that a fleet
-- appended is the clock's at that call.)
abbrev pub EachFleetRecordIsInTime : Type 0
EachFleetRecordIsInTime =
    (a b : FleetWorld) (runs : Runs) (most : ℕ) → IsFleetOpened a runs most → FleetSteps a b → (place : ℕ) (w : EngineView)
    → slice_get b.engines place ≡ Some w → (front back : List Record) (r : Record) → w.history.records ≡ front ++ r ∷ back
    → NoneIsLater (moment_of r) front

-- Nor is that of a record that may stand behind them, where the disk failed.
abbrev pub EachOfferedIsInTime : Type 0
EachOfferedIsInTime =
    (a b : FleetWorld) (runs : Runs) (most : ℕ) → IsFleetOpened a runs most → FleetSteps a b → (place : ℕ) (w : EngineView) (r : Record)
    → slice_get b.engines place ≡ Some w → (b.own place).unsure ≡ Some r → NoneIsLater (moment_of r) w.history.records

-- ---- acts

-- The moment of an act is the clock's, or that of the last act in its filter's file, whichever is later.
pub record IsActInTime (now : ℕ) (acts : List Act) (act : Act) : Type 0 where
  pub no_earlier : now ≤ act.moment
  pub behind : moment_of_last acts ≤ act.moment
  pub one : (act.moment ≡ now) ⊎ (act.moment ≡ moment_of_last acts)

-- One call appended this act, behind those that were appended before it: the filter of its agent acted on the command in hand.
pub record FleetActedByStep (a b : FleetWorld) (front : List (ℕ × Act)) (e : ℕ × Act) : Type 0 where
  pub old : FleetWorld
  pub new : FleetWorld
  pub before : FleetSteps a old
  pub after : FleetSteps new b
  pub beat : ℕ
  pub parcel : Parcel
  pub v : ActuatorView
  pub w : ActuatorView
  pub acts : FiltersDo (ActsOn beat parcel v w) old new
  pub was : old.notes.acted ≡ a.notes.acted ++ front
  pub is : e ≡ (parcel.agent, act_for v.acts parcel old.site.clock.now)
  pub in_time : IsActInTime old.site.clock.now v.acts e.1

-- So came each act that a fleet appended.
abbrev pub EachFleetActed : Type 0
EachFleetActed =
    (a b : FleetWorld) → FleetSteps a b → (front back : List (ℕ × Act)) (e : ℕ × Act)
    → b.notes.acted ≡ (a.notes.acted ++ front) ++ e ∷ back → FleetActedByStep a b front e
