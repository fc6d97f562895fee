-- Promise: What the filters gain.
use Rattle.std.specs.Prelude.{◌≡◌, ℕ, suc, nat_eq, List, [], ◌∷◌, ◌++◌, length, Some, slice_get, if◌then◌else◌}
use Rattle.run_records.specs.declared.act.Act.{Act}
use Rattle.slpf_actuator.specs.ActuatorView.{ActuatorView}
use Rattle.flow_world_steps.specs.Steps.{Steps}
use Rattle.flow_world_steps.specs.Worlds.{World}

-- the acts of an agent, in order
abbrev pub acts_of : ℕ → List (ℕ × Act) → List Act
acts_of agent [] = []
acts_of agent (e ∷ acted) = if nat_eq e.0 agent then e.1 ∷ acts_of agent acted else acts_of agent acted

-- at this place there is a filter of the same agent, with these acts behind those that it had
pub record HasGrown (v : ActuatorView) (filters : List ActuatorView) (place : ℕ) (acts : List Act) : Type 0 where
  pub now : ActuatorView
  pub there : slice_get filters place ≡ Some now
  pub agent : now.agent ≡ v.agent
  pub has : now.acts ≡ v.acts ++ acts

-- There are as many filters as before. Each has just the acts more that the session notes as appended for its agent, in order.
pub record FiltersGrow (a b : World) : Type 0 where
  pub acted : List (ℕ × Act)
  pub acts : b.notes.acted ≡ a.notes.acted ++ acted
  pub many : length b.filters ≡ length a.filters
  pub each : (k : ℕ) (v : ActuatorView) → slice_get a.filters k ≡ Some v → HasGrown v b.filters k (acts_of (suc k) acted)

abbrev pub EachFiltersGrow : Type 0
EachFiltersGrow = (a b : World) → Steps a b → FiltersGrow a b
