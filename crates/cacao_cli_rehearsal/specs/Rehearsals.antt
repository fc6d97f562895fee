-- Promise: What comes of a rehearsal.
use Rattle.std.specs.Prelude.{◌≡◌, ◌<◌, ◌≤◌, ℕ, Bool, true, false, List, [], ◌∷◌, length, ⊤}
use Rattle.cacao_site.specs.View.{SiteView}
use Rattle.cacao_check.specs.declared.breaks.Break.{Break}
use Rattle.flow_core_rules.specs.Givens.{Given}
use Rattle.flow_core.specs.SetupReading.{BreaksRule}
use Rattle.flow_world_steps.specs.Spent.{all_acts}
use Rattle.flow_world.specs.Sessions.{HasClosed, HasRefused}
use Rattle.flow_world.specs.Close.{Close}
use Rattle.flow_world.specs.Close.TheVariants as close
use Rattle.flow_world.specs.WorldError.{WorldError}
use Rattle.cacao_cli_rehearsal.specs.Books.{rehearsal_text}
use Rattle.cacao_cli_rehearsal.specs.Counts.{KeepsImages, OpensFew, all_rules}
use Rattle.cacao_cli_rehearsal.specs.Settings.{IsAccepted}
use Rattle.cacao_cli_rehearsal.specs.declared.error.RehearsalError.{RehearsalError}
use Rattle.cacao_cli_rehearsal.specs.declared.error.RehearsalError.TheVariants as error
use Rattle.cacao_cli_rehearsal.specs.declared.summary.Summary.{Summary}

-- ---- the run

abbrev pub run_number : ℕ
run_number = 1

abbrev pub most_records : ℕ
most_records = 1000000000

abbrev pub ended_well : Close
ended_well = close.Ended true

abbrev pub is_well : Close → Bool
is_well (close.Ended well) = well
is_well other = false

-- A session of the run, without answers of operators, closed so; the site before and after it.
abbrev pub Closes : Given → Close → SiteView → SiteView → Type 0
Closes given how old new = HasClosed how given run_number most_records [] old new

-- or it refused
abbrev pub Refuses : Given → WorldError → SiteView → SiteView → Type 0
Refuses given why old new = HasRefused why given run_number most_records [] old new

-- The run ended well, and with so many records, acts and rules; then the files were opened again, each once at most, and no line was said.
pub record RunsWell (given : Given) (old new : SiteView) (summary : Summary) : Type 0 where
  pub after : SiteView
  pub closed : Closes given ended_well old after
  pub keeps : KeepsImages after.disk new.disk
  pub few : OpensFew after.disk new.disk
  pub silent : new.counts.says ≡ after.counts.says
  pub records : summary.records ≡ length closed.went.to.engine.history.records
  pub acts : summary.acts ≡ all_acts closed.went.to.filters
  pub rules : summary.rules ≡ all_rules closed.went.to.filters

-- It closed otherwise.
pub record ClosesOtherwise (given : Given) (how : Close) (old new : SiteView) : Type 0 where
  pub closed : Closes given how old new
  pub other : is_well how ≡ false

abbrev pub FailsToRun : Given → SiteView → SiteView → RehearsalError → Type 0
FailsToRun given old new error.TooLong = ⊥
FailsToRun given old new (error.Broken told) = ⊥
FailsToRun given old new (error.Closed how) = ClosesOtherwise given how old new
FailsToRun given old new (error.Refused why) = Refuses given why old new
FailsToRun given old new error.Memory = ⊤

-- ---- all

-- the text of the playbook with so many positions is not too long, it ran on the site, and this was counted
pub record Rehearsed (positions : ℕ) (old new : SiteView) (summary : Summary) : Type 0 where
  pub short : length (rehearsal_text positions) ≤ 1048576
  pub given : Given
  pub accepted : IsAccepted (rehearsal_text positions) given
  pub runs : RunsWell given old new summary

-- the text is not too long and is accepted, and it did not run well
pub record RunsBadly (positions : ℕ) (old new : SiteView) (why : RehearsalError) : Type 0 where
  pub short : length (rehearsal_text positions) ≤ 1048576
  pub given : Given
  pub accepted : IsAccepted (rehearsal_text positions) given
  pub fails : FailsToRun given old new why

-- the site was not touched, since the text is too long, or is not and breaks a rule
pub record IsTooLong (text : List ℕ) (old new : SiteView) : Type 0 where
  pub long : 1048576 < length text
  pub same : new ≡ old

pub record IsBroken (text : List ℕ) (told : Break) (old new : SiteView) : Type 0 where
  pub short : length text ≤ 1048576
  pub breaks : BreaksRule (text ∷ []) [] told
  pub same : new ≡ old

-- why there is no summary
abbrev pub FailsToRehearse : ℕ → SiteView → SiteView → RehearsalError → Type 0
FailsToRehearse positions old new error.TooLong = IsTooLong (rehearsal_text positions) old new
FailsToRehearse positions old new (error.Broken told) = IsBroken (rehearsal_text positions) told old new
FailsToRehearse positions old new (error.Closed how) = RunsBadly positions old new (error.Closed how)
FailsToRehearse positions old new (error.Refused why) = RunsBadly positions old new (error.Refused why)
FailsToRehearse positions old new error.Memory = ⊤
