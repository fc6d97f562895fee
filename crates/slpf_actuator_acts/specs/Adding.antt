-- Promise: What an act that is kept may do to a filter's file.
use Rattle.std.specs.Prelude.{◌⊎◌, ℕ, ◌+◌, ◌≤◌, length, List, [], ◌∷◌, ◌++◌}
use Rattle.cacao_site.specs.DiskCalls.{OnlyFile}
use Rattle.cacao_site.specs.View.{SiteView}
use Rattle.run_journal.specs.Durable.{header_calls, header_bytes}
use Rattle.run_records.specs.declared.act.Act.{Act}
use Rattle.run_records.specs.Layout.{act_layout}
use Rattle.slpf_actuator_acts.specs.ActuatorView.{ActuatorView, HoldsActs}

-- the image stands for the acts, or for these and one more
abbrev pub HoldsWith : List Act → Act → List ℕ → Type 0
HoldsWith acts act image = HoldsActs acts image ⊎ HoldsActs (acts ++ act ∷ []) image

-- the filter's file alone may have changed, and each image of it at each beat stands for the acts, or for these and this one
pub record MayAdd (v : ActuatorView) (act : Act) (old new : SiteView) : Type 0 where
  pub file : OnlyFile v.agent old new (HoldsWith v.acts act)
  pub calls : new.disk.calls ≤ old.disk.calls + (header_calls v.prepared + 4)
  pub written : new.disk.written ≤ old.disk.written + (header_bytes v.prepared + (length (act_layout act) + 6))
