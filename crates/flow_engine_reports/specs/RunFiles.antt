-- Promise: What the bytes of the engine's file tell of a run.
use Rattle.std.specs.Prelude.{◌≡◌, ◌⊎◌, ℕ, ◌≤◌, List, ◌∷◌, length, Some}
use Rattle.std.specs.List.{AllByRecursion}
use Rattle.cacao_check.specs.Fits.{FitsKind}
use Rattle.run_journal.specs.Layout.{IsDamagedAt, Stands}
use Rattle.run_records.specs.Ranges.{InRange, last_moment}
use Rattle.run_records.specs.Reading.{record_of}
use Rattle.run_records.specs.declared.record.Record.{Record}
use Rattle.flow_core_rules.specs.Accepted.{Accepted}
use Rattle.flow_core_rules.specs.Givens.{Given}
use Rattle.flow_core_rules.specs.Runs.{begin_of}
use Rattle.flow_core_rules.specs.State.{Shown}
use Rattle.flow_core.specs.Setups.{AreAccepted}
use Rattle.flow_core.specs.Views.{most_tasks}
use Rattle.flow_core.specs.declared.flow_errors.LimitKind.TheVariants as limit
use Rattle.flow_engine_history.specs.HistoryView.{entries_of}
use Rattle.flow_engine_history.specs.Histories.{IsShownAfter}
use Rattle.flow_engine_history.specs.Openings.{RefusesEntries, first_gate}
use Rattle.flow_engine_history.specs.declared.error.EngineError.TheVariants as refused

-- the entry is the Begin of a run of what is accepted, with its canonical texts and in time
pub record IsBegin (entry : List ℕ) (given : Given) (run : ℕ) : Type 0 where
  pub moment : ℕ
  pub reads : record_of entry ≡ Some (begin_of given run moment)
  pub in_time : moment ≤ last_moment
  pub accepted : Accepted AreAccepted FitsKind given.texts given.bind given

-- the first entry is such a Begin, which tells what the run was given, and its number
pub record Begins (entries : List (List ℕ)) (given : Given) (run : ℕ) : Type 0 where
  pub first : List ℕ
  pub others : List (List ℕ)
  pub are : entries ≡ first ∷ others
  pub begin : IsBegin first given run

-- there is a first entry, and it is no such Begin
pub record BeginsOtherwise (entries : List (List ℕ)) : Type 0 where
  pub first : List ℕ
  pub others : List (List ℕ)
  pub are : entries ≡ first ∷ others
  pub bad : (given : Given) (run : ℕ) → IsBegin first given run → ⊥

-- the entries are the records of a run of at most 1,000,000 tasks, and this is shown after them
pub record TellsRun (entries : List (List ℕ)) (records : List Record) (seen : Shown) : Type 0 where
  pub begins : Begins entries seen.given seen.run
  pub are : entries ≡ entries_of records
  pub ranges : AllByRecursion InRange records
  pub shows : IsShownAfter seen.given seen.run records seen
  pub tasks : length seen.lists.tasks ≤ most_tasks

-- the entries stop being a run at this place: that of the first entry, or where an opening of the run that it begins would be refused
pub record RefusedAt (entries : List (List ℕ)) (place : ℕ) : Type 0 where
  pub given : Given
  pub run : ℕ
  pub begins : Begins entries given run
  pub refuses : RefusesEntries given run entries (refused.Damaged place)

abbrev pub BreaksOff : List (List ℕ) → ℕ → Type 0
BreaksOff entries place = (BeginsOtherwise entries × (place ≡ first_gate)) ⊎ RefusedAt entries place

-- a record that may come next would make more than 1,000,000 tasks
pub record Overgrows (entries : List (List ℕ)) : Type 0 where
  pub given : Given
  pub run : ℕ
  pub begins : Begins entries given run
  pub refuses : RefusesEntries given run entries (refused.Limit limit.Tasks)

-- the bytes stand for no list, or for one that stops being a run
abbrev pub IsDamaged : List ℕ → ℕ → Type 0
IsDamaged image place = IsDamagedAt image place ⊎ ((entries : List (List ℕ)) × Stands image entries × BreaksOff entries place)

-- the bytes stand for a run that grows past its limit
abbrev pub IsTooLarge : List ℕ → Type 0
IsTooLarge image = (entries : List (List ℕ)) × Stands image entries × Overgrows entries
