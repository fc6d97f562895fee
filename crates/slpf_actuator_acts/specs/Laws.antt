-- Promise: What the damage of a filter's file settles.
use Rattle.std.specs.Prelude.{◌≡◌, ℕ, List}
use Rattle.run_records.specs.declared.act.Act.{Act}
use Rattle.slpf_actuator_acts.specs.ActLists.{IsHistory}
use Rattle.slpf_actuator_acts.specs.ActuatorView.{HoldsActs}
use Rattle.slpf_actuator_acts.specs.Damage.{IsDamaged}

-- a damaged image stands for no acts of a filter
abbrev pub NoActsWhereDamaged : Type 0
NoActsWhereDamaged = (image : List ℕ) (place : ℕ) (acts : List Act)
    → IsDamaged image place → HoldsActs acts image → IsHistory acts → ⊥

-- it is damaged at one place
abbrev pub OneDamage : Type 0
OneDamage = (image : List ℕ) (p q : ℕ) → IsDamaged image p → IsDamaged image q → p ≡ q
