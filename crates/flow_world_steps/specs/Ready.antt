-- Promise: What the files hold, whatever happened.
use Rattle.std.specs.Prelude.{◌≡◌, ◌≢◌, ◌⊎◌, ℕ, suc, false, List, [], ◌∷◌, ◌++◌, Option, Some, None, IfSome, Contains, slice_get}
use Rattle.cacao_site.specs.DiskCalls.{AllLeft}
use Rattle.cacao_site.specs.View.{SiteView}
use Rattle.run_records.specs.declared.act.Act.{Act}
use Rattle.slpf_actuator.specs.ActuatorView.{ActuatorView, HoldsActs, IsReady}
use Rattle.flow_world_steps.specs.Sides.{HoldsWithUnsure, IsEngine}
use Rattle.flow_world_steps.specs.Steps.{Steps}
use Rattle.flow_world_steps.specs.Worlds.{World, IsGoing, looked}

-- Each image of file 0 stands for the engine's records, or for these and the one during whose append the disk failed.
pub record JournalStands (w : World) : Type 0 where
  pub engine : IsEngine w.engine w.site
  pub holds : AllLeft 0 w.site.disk (HoldsWithUnsure w.engine.history.records w.notes.unsure)
  pub sure : w.engine.history.broken ≡ false → w.notes.unsure ≡ None

abbrev pub EachReady : Type 0
EachReady = (a b : World) → JournalStands a → Steps a b → JournalStands b

-- the image stands for the acts, or for these and the one of this agent that may stand behind them
abbrev pub HoldsActsWithUnsure : ℕ → List Act → Option (ℕ × Act) → List ℕ → Type 0
HoldsActsWithUnsure agent acts None image = HoldsActs acts image
HoldsActsWithUnsure agent acts (Some e) image = HoldsActs acts image ⊎ ((e.0 ≡ agent) × HoldsActs (acts ++ e.1 ∷ []) image)

-- the filter of an agent, whose file holds its acts, or these and one more
pub record FilterStands (w : World) (agent : ℕ) (v : ActuatorView) : Type 0 where
  pub ready : IsReady v w.site
  pub of_agent : v.agent ≡ agent
  pub holds : AllLeft agent w.site.disk (HoldsActsWithUnsure agent v.acts w.notes.unsure_act)

-- So it is with each filter; and nothing is unsure until a filter refused, which ends the session.
pub record FiltersStand (w : World) : Type 0 where
  pub each : (k : ℕ) (v : ActuatorView) → slice_get w.filters k ≡ Some v → FilterStands w (suc k) v
  pub sure : IsGoing w.phase → w.notes.unsure_act ≡ None

abbrev pub EachFilterReady : Type 0
EachFilterReady = (a b : World) → FiltersStand a → Steps a b → FiltersStand b

-- a take found no parcel at this moment, and none is pending, each where it is told
pub record FoundNone (site : SiteView) (moment : ℕ) : Type 0 where
  pub has : IfSome site.link.empty_takes (λ moments. Contains moments moment)
  pub none : IfSome site.link.pending (λ pending. pending ≡ [])

-- So it is wherever a turn has looked for a parcel: at each move, each Expire and each question to the clock.
abbrev pub EachLooked : Type 0
EachLooked = (a b : World) → a.phase ≢ looked → Steps a b → b.phase ≡ looked → FoundNone b.site b.site.clock.now
