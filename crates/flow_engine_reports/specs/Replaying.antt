-- Scaffold: How the entries of a run are taken one after another.
use Rattle.std.specs.Prelude.{◌≡◌, ℕ, List, Some, ⊤}
use Rattle.run_records.specs.Layout.{layout}
use Rattle.run_records.specs.Ranges.{InRange}
use Rattle.run_records.specs.declared.record.Record.{Record}
use Rattle.flow_core_rules.specs.Changes.{moment_of}
use Rattle.flow_core_rules.specs.Edits.{Edit}
use Rattle.flow_core_rules.specs.Givens.{Given}
use Rattle.flow_core.specs.Views.{View, stepped, taken}
use Rattle.flow_core.specs.declared.flow_errors.LimitKind.TheVariants as limit
use Rattle.flow_engine_history.specs.Openings.{RefusesEntries}
use Rattle.flow_core.specs.TakenRecords.{MakesTooMany}
use Rattle.flow_engine_history.specs.Replays.{Stands}
use Rattle.flow_engine_history.specs.Replays as engine
use Rattle.flow_engine_history.specs.declared.error.EngineError.TheVariants as refused
use Rattle.run_records.specs.Reading.{record_of}
use Rattle.flow_engine_reports.specs.declared.error.ReportError.{ReportError}
use Rattle.flow_engine_reports.specs.declared.error.ReportError.TheVariants.{Damaged, TooManyTasks, Memory}

-- the flow after the records of these entries; where the tasks of its Walks stood is not kept
abbrev pub IsReplayed : Given → ℕ → List (List ℕ) → View → Type 0
IsReplayed given run items flow = (stands : Stands) × engine.IsReplayed given run items flow stands

-- the record of an entry was taken
pub record TakesEntry (old : View) (item : List ℕ) (new : View) : Type 0 where
  pub r : Record
  pub in_range : InRange r
  pub is : item ≡ layout r
  pub edits : List Edit
  pub takes : taken old r ≡ Some edits
  pub new_is : new ≡ stepped (moment_of r, edits) old

-- why an entry that may come next was not taken
abbrev pub RefusesNext : View → List ℕ → ReportError → Type 0
RefusesNext flow item (Damaged place) = ⊥
RefusesNext flow item TooManyTasks = (r : Record) × (record_of item ≡ Some r) × MakesTooMany flow r
RefusesNext flow item Memory = ⊤

-- why the entries were not taken
abbrev pub StopsReplay : Given → ℕ → List (List ℕ) → ReportError → Type 0
StopsReplay given run items (Damaged place) = RefusesEntries given run items (refused.Damaged place)
StopsReplay given run items TooManyTasks = RefusesEntries given run items (refused.Limit limit.Tasks)
StopsReplay given run items Memory = ⊤
