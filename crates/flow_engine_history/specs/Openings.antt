-- Promise: What the bytes of an engine's file tell where it is opened for a run.
use Rattle.std.specs.Prelude.{◌≡◌, ◌≢◌, ◌⊎◌, ℕ, ◌+◌, ◌<◌, ◌≤◌, List, ◌∷◌, ◌++◌, length, count_by, Some, None, IsTrue, ⊤}
use Rattle.std.specs.List.{AllByRecursion}
use Rattle.cacao_site.specs.Counts.{Rose}
use Rattle.cacao_site.specs.DiskCalls.{IsDurable}
use Rattle.cacao_site.specs.View.{SiteView}
use Rattle.run_journal.specs.Layout.{IsDamagedAt, Stands, front}
use Rattle.run_records.specs.Ranges.{InRange, last_moment}
use Rattle.run_records.specs.Reading.{record_of}
use Rattle.run_records.specs.declared.record.Record.{Record}
use Rattle.run_records.specs.declared.record.Record.TheVariants as entry
use Rattle.flow_core_rules.specs.Changes.{change}
use Rattle.flow_core_rules.specs.Edits.{Edit}
use Rattle.flow_core_rules.specs.Givens.{Given}
use Rattle.flow_core_rules.specs.State.{Shown}
use Rattle.flow_core.specs.Views.{is_makes, most_tasks}
use Rattle.flow_core.specs.declared.flow_errors.LimitKind.TheVariants as limit
use Rattle.flow_engine_history.specs.Books.{DiffersAt}
use Rattle.flow_engine_history.specs.HistoryView.{entries_of}
use Rattle.flow_engine_history.specs.Histories.{IsShownAfter}
use Rattle.flow_engine_history.specs.declared.error.EngineError.{EngineError}
use Rattle.flow_engine_history.specs.declared.error.EngineError.TheVariants as refused

-- the first entry is a Begin with this run, moment, and texts
pub record BeginsWith (entries : List (List ℕ)) (run moment : ℕ) (books : List (List ℕ)) (bind : List ℕ) : Type 0 where
  pub first : List ℕ
  pub others : List (List ℕ)
  pub are : entries ≡ first ∷ others
  pub reads : record_of first ≡ Some (entry.Begin run moment books bind)

-- there is a first entry, and it is no Begin
pub record BeginsOtherwise (entries : List (List ℕ)) : Type 0 where
  pub first : List ℕ
  pub others : List (List ℕ)
  pub are : entries ≡ first ∷ others
  pub no_begin : (run moment : ℕ) (books : List (List ℕ)) (bind : List ℕ)
      → record_of first ≢ Some (entry.Begin run moment books bind)

-- The records of the front entries are a run of what was given with at most 1,000,000 tasks, and this entry follows them.
pub record GoesOnWith (given : Given) (run : ℕ) (entries : List (List ℕ)) (records : List Record) (seen : Shown)
    (next : List ℕ) : Type 0 where
  pub others : List (List ℕ)
  pub are : entries ≡ entries_of records ++ next ∷ others
  pub ranges : AllByRecursion InRange records
  pub shows : IsShownAfter given run records seen
  pub tasks : length seen.lists.tasks ≤ most_tasks

-- the first entry that is no record, or whose record may not come next, and the place of its gate
pub record BreaksOff (given : Given) (run : ℕ) (entries : List (List ℕ)) (place : ℕ) : Type 0 where
  pub records : List Record
  pub seen : Shown
  pub next : List ℕ
  pub goes_on : GoesOnWith given run entries records seen next
  pub bad : (r : Record) → record_of next ≡ Some r → change seen r ≡ None
  pub at : place ≡ length (front (entries_of records))

-- the first entry whose record may come next and would make more than 1,000,000 tasks
pub record Overgrows (given : Given) (run : ℕ) (entries : List (List ℕ)) : Type 0 where
  pub records : List Record
  pub seen : Shown
  pub next : List ℕ
  pub goes_on : GoesOnWith given run entries records seen next
  pub r : Record
  pub edits : List Edit
  pub reads : record_of next ≡ Some r
  pub takes : change seen r ≡ Some edits
  pub many : most_tasks < length seen.lists.tasks + count_by is_makes edits

-- the Begin has the run and the texts, and its moment is past the last one
abbrev pub BeginsLate : Given → ℕ → List (List ℕ) → Type 0
BeginsLate given run entries = (moment : ℕ) × BeginsWith entries run moment given.texts given.bind × (last_moment < moment)

-- the place of the gate of the first entry
abbrev pub first_gate : ℕ
first_gate = 8

-- Why entries are no run of what was given under this number, in the order in which it is tested.
abbrev pub RefusesEntries : Given → ℕ → List (List ℕ) → EngineError → Type 0
RefusesEntries given run entries (refused.Damaged place) =
    (BeginsOtherwise entries × (place ≡ first_gate))
    ⊎ ((BeginsLate given run entries × (place ≡ first_gate)) ⊎ BreaksOff given run entries place)
RefusesEntries given run entries (refused.OtherRun held asked) =
    ((moment : ℕ) × (books : List (List ℕ)) × (bind : List ℕ) × BeginsWith entries held moment books bind) × (held ≢ run)
    × (asked ≡ run)
RefusesEntries given run entries (refused.OtherBook index) =
    (moment : ℕ) × (books : List (List ℕ)) × (bind : List ℕ) × BeginsWith entries run moment books bind
    × DiffersAt books bind given index
RefusesEntries given run entries (refused.Limit what) = (what ≡ limit.Tasks) × Overgrows given run entries
RefusesEntries given run entries other = ⊥

-- the same of the bytes of a file; some stand for no entries
pub record RefusesAsEntries (given : Given) (run : ℕ) (image : List ℕ) (error : EngineError) : Type 0 where
  pub entries : List (List ℕ)
  pub stands : Stands image entries
  pub refuses : RefusesEntries given run entries error

pub record IsDamaged (image : List ℕ) (error : EngineError) : Type 0 where
  pub place : ℕ
  pub is : error ≡ refused.Damaged place
  pub damaged : IsDamagedAt image place

abbrev pub RefusesImage : Given → ℕ → List ℕ → EngineError → Type 0
RefusesImage given run image error = IsDamaged image error ⊎ RefusesAsEntries given run image error

-- the one image of the file tells this refusal, where the disk is told
abbrev pub IsToldBy : Given → ℕ → EngineError → SiteView → SiteView → Type 0
IsToldBy given run error old new = IsDurable 0 new.disk × (IsTrue old.disk.told → RefusesImage given run (new.disk.reads 0) error)

-- Each refusal of an opening, with its cause. Want of memory is free.
abbrev pub IsRefusedOpening : Given → ℕ → EngineError → SiteView → SiteView → Type 0
IsRefusedOpening given run refused.Disk old new = Rose old.disk.faults new.disk.faults
IsRefusedOpening given run (refused.OtherRun held asked) old new =
    (held ≢ run) × (asked ≡ run) × IsToldBy given run (refused.OtherRun held asked) old new
IsRefusedOpening given run (refused.Limit what) old new = (what ≡ limit.Tasks) × IsToldBy given run (refused.Limit what) old new
IsRefusedOpening given run (refused.Damaged place) old new = IsToldBy given run (refused.Damaged place) old new
IsRefusedOpening given run (refused.OtherBook index) old new = IsToldBy given run (refused.OtherBook index) old new
IsRefusedOpening given run refused.Memory old new = ⊤
IsRefusedOpening given run refused.Broken old new = ⊥
