-- Promise: What may stand in a file after a fault: the record or the act that the last step offered.
use Rattle.std.specs.Prelude.{◌≡◌, ℕ, ◌≤◌, false, Some, None}
use Rattle.cacao_site.specs.declared.parcel.Parcel.{Parcel}
use Rattle.run_records.specs.declared.act.Act.{Act}
use Rattle.run_records.specs.declared.record.Record.{Record}
use Rattle.flow_core_rules.specs.Changes.{moment_of}
use Rattle.flow_engine.specs.HistoryCalls.{Is, Offers}
use Rattle.slpf_actuator.specs.ActuatorView.{ActuatorView, act_for}
use Rattle.slpf_actuator.specs.declared.error.ActError.{ActError}
use Rattle.flow_world_steps.specs.Steps.{FailsToAct, MayHaveActed, Step, Steps}
use Rattle.flow_world_steps.specs.Worlds.{Cause, World, disk_failed, refused}

-- The record was offered by the last step, which tells its kind, while the disk failed: at a moment of the session, and while one
-- more might be appended.
pub record UnsureByStep (a b : World) (r : Record) : Type 0 where
  pub old : World
  pub before : Steps a old
  pub step : Step old b
  pub was : old.notes.unsure ≡ None
  pub has : b.notes.unsure ≡ Some r
  pub offers : Offers old.engine.history (Is r) old.site b.site
  pub moment : moment_of r ≡ old.site.clock.now
  pub later : a.site.clock.now ≤ old.site.clock.now
  pub up_to : old.site.clock.now ≤ b.site.clock.now
  pub budget : 1 ≤ b.notes.left
  pub phase : b.phase ≡ refused disk_failed false

abbrev pub EachUnsure : Type 0
EachUnsure = (a b : World) (r : Record) → a.notes.unsure ≡ None → Steps a b → b.notes.unsure ≡ Some r → UnsureByStep a b r

-- the act was offered by the filter that refused in the last step
pub record UnsureByFilter (a b : World) (e : ℕ × Act) : Type 0 where
  pub old : World
  pub before : Steps a old
  pub beat : ℕ
  pub parcel : Parcel
  pub v : ActuatorView
  pub w : ActuatorView
  pub error : ActError
  pub cause : Cause
  pub fails : FailsToAct beat parcel v w error cause old b
  pub acted : MayHaveActed parcel v old b
  pub is : e ≡ (parcel.agent, act_for v.acts parcel old.site.clock.now)
  pub later : a.site.clock.now ≤ old.site.clock.now
  pub up_to : old.site.clock.now ≤ b.site.clock.now

abbrev pub EachUnsureAct : Type 0
EachUnsureAct =
    (a b : World) (e : ℕ × Act) → a.notes.unsure_act ≡ None → Steps a b → b.notes.unsure_act ≡ Some e → UnsureByFilter a b e
