-- Promise: How the journal stands where a session closed, told of the bytes of its file.
use Rattle.std.specs.Prelude.{◌≡◌, ◌≢◌, ℕ, IsTrue, List, Some, None, ⊤}
use Rattle.cacao_site.specs.Sound.{IsSound}
use Rattle.cacao_site.specs.View.{SiteView}
use Rattle.run_records.specs.declared.record.Record.{Record}
use Rattle.flow_core_rules.specs.Changes.{outcome}
use Rattle.flow_core_rules.specs.Givens.{Given}
use Rattle.flow_core_rules.specs.Moves.{asks, due}
use Rattle.flow_core_rules.specs.State.{Shown}
use Rattle.flow_laws.specs.Images.{IsRecords}
use Rattle.flow_world_steps.specs.Histories.{IsSoFar}
use Rattle.flow_engine_answers.specs.declared.answers.OperatorAnswer.{OperatorAnswer}
use Rattle.flow_world.specs.Sessions.{HasClosed}
use Rattle.flow_world.specs.Close.{Close}
use Rattle.flow_world.specs.Close.TheVariants as close

-- the bytes that file 0 reads as are records, a run so far of what was given under this number, and so it stands after them
pub record ReadsAsRun (given : Given) (run : ℕ) (site : SiteView) (seen : Shown) : Type 0 where
  pub records : List Record
  pub reads : IsRecords (site.disk.reads 0) records
  pub so_far : IsSoFar records seen
  pub given_is : seen.given ≡ given
  pub of_run : seen.run ≡ run

-- they read as one run
abbrev pub ReadsAsOneRun : Type 0
ReadsAsOneRun =
    (given : Given) (run : ℕ) (site : SiteView) (a b : Shown) → ReadsAsRun given run site a → ReadsAsRun given run site b → a ≡ b

-- What a run tells of how its session closed: that it has ended, and how; else that it goes on, and where the session asks, that
-- nothing is due and that this is the least question. Of a session that waits it tells nothing.
abbrev pub TellsClose : Close → Shown → Type 0
TellsClose (close.Ended well) seen = outcome seen.lists ≡ Some well
TellsClose close.Paused seen = outcome seen.lists ≡ None
TellsClose (close.Waiting moment) seen = ⊤
TellsClose close.Flooded seen = outcome seen.lists ≡ None
TellsClose (close.Asked issue) seen = (outcome seen.lists ≡ None) × (due seen ≡ None) × (asks seen ≡ Some issue)

-- the file of a session that closed so, but for one that waits, reads as such a run
pub record ClosesOnRun (how : Close) (given : Given) (run : ℕ) (site : SiteView) : Type 0 where
  pub seen : Shown
  pub reads : ReadsAsRun given run site seen
  pub tells : TellsClose how seen

abbrev pub EachClosesOnRun : Type 0
EachClosesOnRun =
    (how : Close) (given : Given) (run most : ℕ) (answers : List OperatorAnswer) (old new : SiteView)
    → HasClosed how given run most answers old new → ((moment : ℕ) → how ≢ close.Waiting moment) → IsSound new
    → IsTrue new.disk.told → ClosesOnRun how given run new
