-- Promise: What is told of a rehearsal.
use Rattle.std.specs.Prelude.{◌≡◌, ◌⊎◌, ◌≤◌, ℕ, [], ◌∷◌, length, ⊤}
use Rattle.cacao_site_memory.specs.MemorySite.{view_of}
use Rattle.cacao_site.specs.View.{SiteView}
use Rattle.cacao_site_memory.specs.declared.site.MemorySite.{MemorySite}
use Rattle.cacao_check.specs.declared.breaks.Break.{Break}
use Rattle.flow_core.specs.SetupReading.{BreaksRule}
use Rattle.flow_core_rules.specs.Givens.{Given}
use Rattle.flow_world.specs.Close.{Close}
use Rattle.flow_world.specs.WorldError.{WorldError}
use Rattle.cacao_cli_rehearsal.specs.Books.{rehearsal_text}
use Rattle.cacao_cli_rehearsal.specs.Plans.{GoesByPlan}
use Rattle.cacao_cli_rehearsal.specs.Rehearsals.{ClosesOtherwise, Refuses, RunsWell}
use Rattle.cacao_cli_rehearsal.specs.Settings.{IsAccepted, IsNewSite}
use Rattle.cacao_cli_rehearsal.specs.declared.error.RehearsalError.{RehearsalError}
use Rattle.cacao_cli_rehearsal.specs.declared.error.RehearsalError.TheVariants as rehearsal_error
use Rattle.cacao_cli_rehearsal.specs.declared.summary.Summary.{Summary}
use Rattle.cacao_cli_ends.specs.Ends.{End, ended_failed, no_memory, past, refused, rehearsed}
use Rattle.cacao_cli_session_laws.specs.Holding.{close_end, error_end}
use Rattle.cacao_cli_ends.specs.declared.limit.Limit.TheVariants.{FileBytes}

-- ---- the text

-- The playbook with so many positions is no longer than a file may be (it never is longer with as many positions as the words
-- allow), and this is its first break of a rule.
abbrev pub HasBreak : ℕ → Break → Type 0
HasBreak positions broken = (length (rehearsal_text positions) ≤ 1048576) × BreaksRule (rehearsal_text positions ∷ []) [] broken

abbrev pub IsBrokenRehearsal : ℕ → Type 0
IsBrokenRehearsal positions = (broken : Break) × HasBreak positions broken

-- ---- the run

-- it ended well, and was counted
pub record EndsWell (positions : ℕ) (given : Given) (old new : SiteView) (last : End) : Type 0 where
  pub summary : Summary
  pub well : RunsWell given old new summary
  pub ends : last ≡ rehearsed positions summary.records summary.acts summary.rules

-- its session closed otherwise, or refused
pub record EndsOtherwise (given : Given) (old new : SiteView) (last : End) : Type 0 where
  pub how : Close
  pub closes : ClosesOtherwise given how old new
  pub ends : last ≡ close_end how

pub record EndsRefused (given : Given) (old new : SiteView) (last : End) : Type 0 where
  pub why : WorldError
  pub refuses : Refuses given why old new
  pub ends : last ≡ error_end why

abbrev pub EndsRun : ℕ → Given → SiteView → SiteView → End → Type 0
EndsRun positions given old new last =
    EndsWell positions given old new last ⊎ (EndsOtherwise given old new last ⊎ EndsRefused given old new last)

-- An end that the run of a rehearsal may come to: it ended, well or not; a limit was passed; or memory was wanted. Nothing fails on
-- its site until that is used up, which is answered as want of memory. Its files are blank, so none is of another run, no filter
-- acted for this one, and none is damaged. Its session neither comes to the end of its budget nor waits, for a moment or for an
-- operator, nor takes as many parcels as would close it.
abbrev pub MayEndSo : End → Type 0
MayEndSo (rehearsed positions records acts rules) = ⊤
MayEndSo ended_failed = ⊤
MayEndSo (past limit) = ⊤
MayEndSo no_memory = ⊤
MayEndSo other = ⊥

-- The playbook with so many positions is not too long, and is accepted, and its run on a new site of its own came to this end.
-- Nothing failed on that site.
pub record RehearsalTo (positions : ℕ) (last : End) : Type 0 where
  pub site : MemorySite
  pub is_new : IsNewSite site
  pub left : MemorySite
  pub by_plan : GoesByPlan left
  pub short : length (rehearsal_text positions) ≤ 1048576
  pub given : Given
  pub accepted : IsAccepted (rehearsal_text positions) given
  pub runs : EndsRun positions given (view_of site) (view_of left) last
  pub may : MayEndSo last

-- the end that says why there is no summary (`TooLong` never comes here)
abbrev pub failed_end : RehearsalError → End
failed_end rehearsal_error.TooLong = past FileBytes
failed_end (rehearsal_error.Broken broken) = refused broken
failed_end (rehearsal_error.Closed how) = close_end how
failed_end (rehearsal_error.Refused why) = error_end why
failed_end rehearsal_error.Memory = no_memory

-- ---- all

-- the playbook breaks a rule; or it ran; or memory was wanted
abbrev pub TellsRehearsal : ℕ → End → Type 0
TellsRehearsal positions last =
    ((broken : Break) × HasBreak positions broken × (last ≡ refused broken))
    ⊎ (RehearsalTo positions last ⊎ (last ≡ no_memory))

-- the end tells of a rehearsal, and the site that was handed in is as it was
pub record Rehearses (positions : ℕ) (old new : SiteView) (last : End) : Type 0 where
  pub same : new ≡ old
  pub tells : TellsRehearsal positions last
