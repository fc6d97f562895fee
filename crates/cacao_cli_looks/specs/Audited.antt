-- Promise: What is told of the files of a run that are audited.
use Rattle.std.specs.Prelude.{◌≡◌, ◌⊎◌, ℕ, List}
use Rattle.cacao_site.specs.View.{SiteView}
use Rattle.flow_audit.specs.Audits.{AllAgree, IsVerdict, PassesTasksAt}
use Rattle.flow_audit.specs.declared.verdict.Verdict17.{Verdict17}
use Rattle.flow_audit.specs.declared.verdict.Verdict17.TheVariants as verdict
use Rattle.cacao_cli_words.specs.Words.{Text}
use Rattle.cacao_cli_ends.specs.Ends.{End, agrees, disagrees, past, no_memory}
use Rattle.cacao_cli_ends.specs.declared.limit.Limit.TheVariants.{TaskCount}

-- a record of the engine's file makes more than 1,000,000 tasks
abbrev pub PassTasks : List Text → Type 0
PassTasks files = (place : ℕ) × PassesTasksAt files place

-- none does, and the files stand for so many records and acts that agree
pub record FilesAgree (files : List Text) : Type 0 where
  pub within : ¬ PassTasks files
  pub records : ℕ
  pub acts : ℕ
  pub agree : AllAgree files records acts

-- none does, and the files first disagree at this place of this file
pub record Disagree (files : List Text) : Type 0 where
  pub within : ¬ PassTasks files
  pub file : ℕ
  pub place : ℕ
  pub at : IsVerdict files (verdict.No file place)

-- this is the verdict on the files, and there is no other
pub record IsOnlyVerdict (files : List Text) (told : Verdict17) : Type 0 where
  pub within : ¬ PassTasks files
  pub is : IsVerdict files told
  pub one : (other : Verdict17) → IsVerdict files other → told ≡ other

-- the end that tells the verdict
abbrev pub verdict_end : Verdict17 → End
verdict_end (verdict.Yes records acts) = agrees records acts
verdict_end (verdict.No file place) = disagrees file place

-- the verdict on the files; or that a record makes too many tasks; or memory was wanted
abbrev pub TellsFiles : List Text → End → Type 0
TellsFiles files end =
    ((told : Verdict17) × IsOnlyVerdict files told × (end ≡ verdict_end told))
    ⊎ ((PassTasks files × (end ≡ past TaskCount)) ⊎ (end ≡ no_memory))

-- the end tells of the files, and nothing was said before
pub record Compares (files : List Text) (old new : SiteView) (last : End) : Type 0 where
  pub same : new ≡ old
  pub tells : TellsFiles files last

-- the status is that of what is told of the files of a run
abbrev pub HasVerdict : List Text → ℕ → Type 0
HasVerdict files answer = (((records : ℕ) × (acts : ℕ) × IsOnlyVerdict files (verdict.Yes records acts)) × (answer ≡ 0))
    ⊎ ((((file : ℕ) × (place : ℕ) × IsOnlyVerdict files (verdict.No file place)) × (answer ≡ 18))
    ⊎ (PassTasks files × (answer ≡ 11)))
