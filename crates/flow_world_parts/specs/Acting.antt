-- Scaffold: What becomes of a command that is handed to its filter, whatever an engine knows of it.
use Rattle.std.specs.Prelude.{◌≡◌, ℕ, ◌-◌, Bool, true, false, List, Some, Result, Ok, Err, slice_get, slice_set, ⊤}
use Rattle.cacao_site.specs.Counts.{Rose}
use Rattle.cacao_site.specs.View.{SiteView}
use Rattle.cacao_site.specs.declared.parcel.Parcel.{Parcel}
use Rattle.slpf_actuator.specs.ActuatorCalls.{Acts, Overflows, Refuses, Repeats}
use Rattle.slpf_actuator.specs.ActuatorView.{ActuatorView}
use Rattle.slpf_actuator.specs.ActuatorView as filter
use Rattle.slpf_actuator.specs.declared.error.ActError.{ActError}
use Rattle.slpf_actuator.specs.declared.error.ActError.TheVariants as act_error

-- why a filter that had refused nothing before refuses
abbrev pub IsActCause : ActError → ActuatorView → Parcel → ℕ → SiteView → SiteView → Type 0
IsActCause act_error.Disk v parcel moment old new = Rose old.disk.faults new.disk.faults
IsActCause (act_error.Full needed) v parcel moment old new = Overflows v parcel moment needed
IsActCause act_error.Memory v parcel moment old new = ⊤
IsActCause other v parcel moment old new = ⊥

-- it acts, or repeats the reply of its act, or refuses
abbrev pub FilterAnswers : Result Bool ActError → ActuatorView → ActuatorView → Parcel → ℕ → SiteView → SiteView → Type 0
FilterAnswers (Ok true) v w parcel moment old new = Acts v w parcel moment old new
FilterAnswers (Ok false) v w parcel moment old new = Repeats v w parcel old new
FilterAnswers (Err error) v w parcel moment old new =
    Refuses v w parcel moment error old new × IsActCause error v parcel moment old new

-- The filter of the command's agent did so; the other filters stay.
pub record OneAnswers (result : Result Bool ActError) (parcel : Parcel) (moment : ℕ) (old new : SiteView)
    (fs gs : List ActuatorView) : Type 0 where
  pub v : ActuatorView
  pub w : ActuatorView
  pub there : slice_get fs (parcel.agent - 1) ≡ Some v
  pub answers : FilterAnswers result v w parcel moment old new
  pub others : gs ≡ slice_set fs (parcel.agent - 1) w
  pub agent : w.agent ≡ v.agent
  pub ready : filter.IsReady w new
