-- Promise: How far a session comes that nothing disturbs.
use Rattle.std.specs.Prelude.{◌⊎◌, ℕ, IsTrue, List, [], ⊤}
use Rattle.cacao_site.specs.Counts.{DidNotRise}
use Rattle.cacao_site.specs.DiskCalls.{IsLeft}
use Rattle.cacao_site.specs.Sound.{IsSound}
use Rattle.cacao_site.specs.View.{SiteView}
use Rattle.run_journal.specs.Layout.{Stands}
use Rattle.flow_core_rules.specs.Givens.{Given}
use Rattle.flow_laws.specs.Fresh.{IsFresh}
use Rattle.flow_world_steps.specs.Openings.{BeginsWith}
use Rattle.flow_engine_answers.specs.declared.answers.OperatorAnswer.{OperatorAnswer}
use Rattle.flow_world.specs.Sessions.{HasClosed, HasRefused, IsStart}
use Rattle.flow_world.specs.Close.{Close}
use Rattle.flow_world.specs.Close.TheVariants as close
use Rattle.flow_world.specs.WorldError.{WorldError}
use Rattle.flow_world.specs.WorldError.TheVariants as error
use Rattle.flow_world_laws.specs.Undamaged.{ComesOfTexts}

-- ---- no other run

-- the image stands for no entries, or the first one is the Begin of this run, with the texts that it is given
abbrev pub HoldsThisRun : Given → ℕ → List ℕ → Type 0
HoldsThisRun given run image =
    Stands image []
    ⊎ ((entries : List (List ℕ)) × Stands image entries × (moment : ℕ) × BeginsWith entries run moment given.texts given.bind)

-- so it is of each image that a crash may leave of file 0 now
abbrev pub IsForThisRun : Given → ℕ → SiteView → Type 0
IsForThisRun given run site = (image : List ℕ) → IsLeft site.disk 0 site.disk.beat image → HoldsThisRun given run image

-- the journal is of a run of another number or with other texts, or it is empty and a filter has an act of this run
abbrev pub TellsOfAnother : WorldError → Type 0
TellsOfAnother (error.OtherRun held asked) = ⊤
TellsOfAnother (error.OtherBook index) = ⊤
TellsOfAnother (error.RunUsed agent) = ⊤
TellsOfAnother other = ⊥

-- No session tells so that began under a fresh number, where file 0 was empty or held this run.
abbrev pub NoneFindsAnother : Type 0
NoneFindsAnother =
    (error : WorldError) (given : Given) (run most : ℕ) (answers : List OperatorAnswer) (old new : SiteView)
    → TellsOfAnother error → IsTrue old.disk.told → IsFresh old run old.disk.beat → IsForThisRun given run old → IsSound new
    → HasRefused error given run most answers old new → ⊥

-- ---- to the end

-- no call of the disk failed, each line was said, and the clock came to each moment that it was asked for
pub record IsUndisturbed (old new : SiteView) : Type 0 where
  pub faults : DidNotRise old.disk.faults new.disk.faults
  pub unsaid : DidNotRise old.counts.unsaid new.counts.unsaid
  pub shorts : DidNotRise old.clock.shorts new.clock.shorts

-- The run has ended, well or not; or as many records were appended as may be; or an operator is asked; or 1,000,000 parcels
-- changed nothing. It does not wait.
abbrev pub EndsSo : Close → Type 0
EndsSo (close.Ended well) = ⊤
EndsSo close.Paused = ⊤
EndsSo (close.Waiting moment) = ⊥
EndsSo close.Flooded = ⊤
EndsSo (close.Asked issue) = ⊤

-- memory was wanted, or a limit would be passed
abbrev pub StopsSo : WorldError → Type 0
StopsSo error.Memory = ⊤
StopsSo (error.Limit what) = ⊤
StopsSo other = ⊥

-- Of texts that are accepted, from a start whose file 0 is empty or holds this run, where nothing disturbs it: a session closes
-- so, or refuses so.
abbrev pub UndisturbedCompletes : Type 0
UndisturbedCompletes =
    (given : Given) (run most : ℕ) (answers : List OperatorAnswer) (old new : SiteView) → ComesOfTexts given → IsStart old run
    → IsForThisRun given run old → IsSound new → IsUndisturbed old new
    → ((how : Close) → HasClosed how given run most answers old new → EndsSo how)
    × ((error : WorldError) → HasRefused error given run most answers old new → StopsSo error)
