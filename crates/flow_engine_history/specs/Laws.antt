-- Promise: What the bytes of an engine's file settle.
use Rattle.std.specs.Prelude.{◌≡◌, ℕ, ◌≤◌, List, length}
use Rattle.std.specs.List.{AllByRecursion}
use Rattle.run_records.specs.Ranges.{InRange}
use Rattle.run_records.specs.declared.record.Record.{Record}
use Rattle.flow_core_rules.specs.Givens.{Given}
use Rattle.flow_core_rules.specs.State.{Shown}
use Rattle.flow_core.specs.Views.{most_tasks}
use Rattle.flow_engine_history.specs.HistoryView.{HoldsRecords}
use Rattle.flow_engine_history.specs.Histories.{IsSoFar}
use Rattle.flow_engine_history.specs.Openings.{RefusesImage}
use Rattle.flow_engine_history.specs.declared.error.EngineError.{EngineError}

-- the image stands for the records of a run of what was given under this number, or for none
pub record HoldsRun (given : Given) (run : ℕ) (image : List ℕ) : Type 0 where
  pub records : List Record
  pub seen : Shown
  pub holds : HoldsRecords records image
  pub ranges : AllByRecursion InRange records
  pub given_is : seen.given ≡ given
  pub run_is : seen.run ≡ run
  pub so_far : IsSoFar records seen
  pub tasks : length seen.lists.tasks ≤ most_tasks

-- an image that is refused holds no run
abbrev pub NoRunWhereRefused : Type 0
NoRunWhereRefused = (given : Given) (run : ℕ) (image : List ℕ) (error : EngineError) → RefusesImage given run image error
    → HoldsRun given run image → ⊥

-- it is refused in one way
abbrev pub OneRefusal : Type 0
OneRefusal = (given : Given) (run : ℕ) (image : List ℕ) (a b : EngineError) → RefusesImage given run image a
    → RefusesImage given run image b → a ≡ b
