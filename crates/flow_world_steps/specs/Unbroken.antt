-- Promise: Whose file holds just what it is to hold, at each end.
use Rattle.std.specs.Prelude.{◌≡◌, ◌⊎◌, ℕ, None}
use Rattle.cacao_site.specs.declared.parcel.Parcel.{Parcel}
use Rattle.run_records.specs.declared.record.Record.{Record}
use Rattle.slpf_actuator.specs.ActuatorView.{ActuatorView}
use Rattle.slpf_actuator.specs.declared.error.ActError.{ActError}
use Rattle.flow_world_steps.specs.Sides.{FiltersReady, IsWhole}
use Rattle.flow_world_steps.specs.Steps.{FailsToAct, Steps}
use Rattle.flow_world_steps.specs.Unsure.{UnsureByStep}
use Rattle.flow_world_steps.specs.Worlds.{Cause, World}

-- a filter refused in the last step
pub record EndedByFilter (a b : World) : Type 0 where
  pub old : World
  pub before : Steps a old
  pub beat : ℕ
  pub parcel : Parcel
  pub v : ActuatorView
  pub w : ActuatorView
  pub error : ActError
  pub cause : Cause
  pub fails : FailsToAct beat parcel v w error cause old b

-- each image of file 0 stands for the engine's records
pub record IsJournalSure (w : World) : Type 0 where
  pub whole : IsWhole w.engine w.site
  pub sure : w.notes.unsure ≡ None

-- each image of a filter's file stands for its acts
pub record AreFiltersSure (w : World) : Type 0 where
  pub filters : FiltersReady w.filters w.site
  pub sure : w.notes.unsure_act ≡ None

-- So it is of the journal, but where the disk failed while a record was appended; and of the filters, but where one refused.
pub record IsUnbroken (a b : World) : Type 0 where
  pub journal : IsJournalSure b ⊎ ((r : Record) × UnsureByStep a b r)
  pub filters : AreFiltersSure b ⊎ EndedByFilter a b

abbrev pub EachUnbroken : Type 0
EachUnbroken = (a b : World) → IsJournalSure a → AreFiltersSure a → Steps a b → IsUnbroken a b
