-- Promise: What holds of the records of a run and of what is shown after them.
use Rattle.std.specs.Prelude.{◌≡◌, ℕ, ◌<◌, ◌≤◌, List, [], ◌∷◌, length, take, Some, slice_get, ⊤}
use Rattle.std.specs.List.{AllByRecursion}
use Rattle.cacao_check.specs.Fits.{FitsKind}
use Rattle.run_journal.specs.Layout.{front}
use Rattle.run_records.specs.Ranges.{InRange}
use Rattle.run_records.specs.declared.record.Record.{Record}
use Rattle.flow_core_rules.specs.Accepted.{Accepted}
use Rattle.flow_core_rules.specs.Givens.{Given}
use Rattle.flow_core_rules.specs.Lines.{record_line}
use Rattle.flow_core_rules.specs.State.{Shown}
use Rattle.flow_core.specs.Setups.{AreAccepted}
pub use Rattle.flow_core.specs.TakenRecords.{IsShownAfter, IsSoFar}
use Rattle.flow_engine_history.specs.HistoryView.{HistoryView, entries_of}

-- What holds of each history.
pub record IsHistory (h : HistoryView) : Type 0 where
  pub ranges : AllByRecursion InRange h.records
  pub so_far : IsSoFar h.records h.seen
  pub accepted : Accepted AreAccepted FitsKind h.seen.given.texts h.seen.given.bind h.seen.given
  pub tasks : length h.seen.lists.tasks ≤ 1_000_000
  pub fits : length (front (entries_of h.records)) < 67_108_864

-- what was shown before a record of the run: of the Begin nothing is asked
abbrev pub IsShownBefore : Given → ℕ → List Record → Shown → Type 0
IsShownBefore given run [] seen = ⊤
IsShownBefore given run (first ∷ others) seen = IsShownAfter given run (first ∷ others) seen

-- the bytes are the line of the record with this number
pub record IsLineAt (h : HistoryView) (n : ℕ) (bytes : List ℕ) : Type 0 where
  pub it : Record
  pub before : Shown
  pub there : slice_get h.records n ≡ Some it
  pub shows : IsShownBefore h.seen.given h.seen.run (take n h.records) before
  pub is : bytes ≡ record_line before n it
