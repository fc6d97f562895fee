-- Promise: What no file holds where all agrees: damage.
use Rattle.std.specs.Prelude.{ℕ, ◌≤◌, IsTrue, List}
use Rattle.cacao_site.specs.DiskCalls.{IsLeft}
use Rattle.cacao_site.specs.Sound.{IsSound}
use Rattle.cacao_site.specs.View.{SiteView}
use Rattle.cacao_check.specs.Fits.{FitsKind}
use Rattle.flow_core_rules.specs.Accepted.{Accepted}
use Rattle.flow_core_rules.specs.Givens.{Given}
use Rattle.flow_laws.specs.Good.{IsGood}
use Rattle.flow_laws.specs.Images.{IsAgent}
use Rattle.flow_core.specs.Setups.{AreAccepted}
use Rattle.flow_world_steps.specs.Openings.{RefusesImage}
use Rattle.flow_world_steps.specs.EngineError.TheVariants as engine_error
use Rattle.flow_engine_answers.specs.declared.answers.OperatorAnswer.{OperatorAnswer}
use Rattle.flow_engine_reports.specs.RunFiles as run_file
use Rattle.slpf_actuator.specs.Damage as filter_file
use Rattle.flow_world.specs.Sessions.{HasRefused}
use Rattle.flow_world.specs.WorldError.TheVariants as error

-- some texts that are accepted give this
pub record ComesOfTexts (given : Given) : Type 0 where
  pub texts : List (List ℕ)
  pub bind : List ℕ
  pub accepted : Accepted AreAccepted FitsKind texts bind given

-- ---- the files of a site

-- of the images that a crash at that beat may leave of the file, none is damaged at any place
abbrev pub NoneDamaged : (List ℕ → ℕ → Type 0) → SiteView → ℕ → ℕ → Type 0
NoneDamaged IsDamaged site file beat = (image : List ℕ) (place : ℕ) → IsLeft site.disk file beat image → IsDamaged image place → ⊥

-- the opening of the journal for this run tells damage of the image
abbrev pub IsDamagedFor : Given → ℕ → List ℕ → ℕ → Type 0
IsDamagedFor given run image place = RefusesImage given run image (engine_error.Damaged place)

-- No file of a filter is damaged. Nor is file 0: not where its run is reported, and not where the journal is opened, for whatever
-- run of what is accepted.
pub record IsUndamaged (site : SiteView) (beat : ℕ) : Type 0 where
  pub filters : (agent : ℕ) → IsAgent agent → NoneDamaged filter_file.IsDamaged site agent beat
  pub reports : NoneDamaged run_file.IsDamaged site 0 beat
  pub opens : (given : Given) (run : ℕ) → ComesOfTexts given → NoneDamaged (IsDamagedFor given run) site 0 beat

-- so it is at each beat at which all that a crash may leave agrees
abbrev pub GoodIsUndamaged : Type 0
GoodIsUndamaged = (site : SiteView) (beat : ℕ) → IsTrue site.disk.told → IsSound site → beat ≤ site.disk.beat → IsGood site beat
    → IsUndamaged site beat

-- ---- sessions

-- No session tells damage that began where all agreed.
abbrev pub NoneFindsDamage : Type 0
NoneFindsDamage =
    (given : Given) (run most : ℕ) (answers : List OperatorAnswer) (old new : SiteView) (file place : ℕ) → ComesOfTexts given
    → IsTrue old.disk.told → IsGood old old.disk.beat → IsSound new
    → HasRefused (error.Damaged file place) given run most answers old new → ⊥
