-- Scaffold: How an opening takes the entries of a file one after another.
use Rattle.std.specs.Prelude.{◌≡◌, ◌≢◌, ℕ, ◌<◌, List, [], ◌∷◌, ◌++◌, length, Some, None, ⊤}
use Rattle.std.specs.List.{AllByRecursion}
use Rattle.run_records.specs.Layout.{layout}
use Rattle.run_records.specs.Ranges.{InRange, last_moment}
use Rattle.run_records.specs.Reading.{record_of}
use Rattle.run_records.specs.declared.record.Record.{Record}
use Rattle.run_records.specs.declared.record.Record.TheVariants as entry
use Rattle.flow_core_rules.specs.Changes.{moment_of}
use Rattle.flow_core_rules.specs.Givens.{Given}
use Rattle.flow_core_rules.specs.Runs.{begin_of}
use Rattle.flow_core.specs.TakenRecords.{Took}
pub use Rattle.flow_core.specs.TakenRecords.{MakesTooMany}
use Rattle.flow_core.specs.Views.{View, taken}
use Rattle.flow_core.specs.declared.flow_errors.LimitKind.TheVariants as limit
use Rattle.flow_engine_history.specs.Books.{DiffersAt}
use Rattle.flow_engine_history.specs.HistoryView.{entries_of}
use Rattle.flow_engine_history.specs.Histories.{IsSoFar}
use Rattle.flow_engine_history.specs.KeptHistory.{AreStands, stand_before}
use Rattle.flow_engine_history.specs.Openings.{RefusesEntries, first_gate}
use Rattle.flow_engine_history.specs.declared.error.EngineError.{EngineError}
use Rattle.flow_engine_history.specs.declared.error.EngineError.TheVariants as refused

-- for each Walk the numbers of the playbook and of the step at which its task stood
abbrev pub Stands : Type 0
Stands = List (ℕ × ℕ)

-- the flow and the stands after the records of these entries
pub record IsReplayed (given : Given) (run : ℕ) (items : List (List ℕ)) (flow : View) (stands : Stands) : Type 0 where
  pub records : List Record
  pub are : items ≡ entries_of records
  pub ranges : AllByRecursion InRange records
  pub count : flow.count ≡ length records
  pub given_is : flow.seen.given ≡ given
  pub run_is : flow.seen.run ≡ run
  pub so_far : IsSoFar records flow.seen
  pub stood : AreStands given run records stands
  pub many : length stands ≡ length records

-- a record was taken
pub record TakesRecord (old : View) (kept : Stands) (r : Record) (new : View) (more : Stands) : Type 0 where
  pub took : Took old r new
  pub more_is : more ≡ kept ++ stand_before old.seen r ∷ []

-- the record of an entry was taken
pub record TakesEntry (old : View) (kept : Stands) (item : List ℕ) (new : View) (more : Stands) : Type 0 where
  pub r : Record
  pub in_range : InRange r
  pub is : item ≡ layout r
  pub took : TakesRecord old kept r new more

-- ---- refusals

-- the entry is no record, or its record may not come next
abbrev pub CannotFollow : View → List ℕ → Type 0
CannotFollow flow item = (r : Record) → record_of item ≡ Some r → taken flow r ≡ None

-- why a record was not taken that may come next
abbrev pub RefusesRecord : View → Record → EngineError → Type 0
RefusesRecord flow r (refused.Limit what) = (what ≡ limit.Tasks) × MakesTooMany flow r
RefusesRecord flow r refused.Memory = ⊤
RefusesRecord flow r other = ⊥

-- the same of an entry
abbrev pub RefusesNext : View → List ℕ → EngineError → Type 0
RefusesNext flow item (refused.Limit what) =
    (what ≡ limit.Tasks) × ((r : Record) × (record_of item ≡ Some r) × MakesTooMany flow r)
RefusesNext flow item refused.Memory = ⊤
RefusesNext flow item other = ⊥

-- where the texts differ
abbrev pub RefusesTexts : List (List ℕ) → List ℕ → Given → EngineError → Type 0
RefusesTexts books bind given (refused.OtherBook index) = DiffersAt books bind given index
RefusesTexts books bind given other = ⊥

-- Why a record is no Begin of this run, whatever its moment is.
abbrev pub RefusesBegin : Given → ℕ → Record → EngineError → Type 0
RefusesBegin given run r (refused.Damaged place) =
    (place ≡ first_gate) × ((held moment : ℕ) (books : List (List ℕ)) (bind : List ℕ) → r ≢ entry.Begin held moment books bind)
RefusesBegin given run r (refused.OtherRun held asked) =
    ((moment : ℕ) × (books : List (List ℕ)) × (bind : List ℕ) × (r ≡ entry.Begin held moment books bind)) × (held ≢ run)
    × (asked ≡ run)
RefusesBegin given run r (refused.OtherBook index) =
    (moment : ℕ) × (books : List (List ℕ)) × (bind : List ℕ) × (r ≡ entry.Begin run moment books bind)
    × DiffersAt books bind given index
RefusesBegin given run r other = ⊥

-- the record is the Begin of this run at some moment
pub record IsBeginOf (given : Given) (run : ℕ) (r : Record) : Type 0 where
  pub moment : ℕ
  pub is : r ≡ begin_of given run moment

-- why the Begin was not taken: its moment is past the last one
abbrev pub RefusesMoment : Record → EngineError → Type 0
RefusesMoment r (refused.Damaged place) = (place ≡ first_gate) × (last_moment < moment_of r)
RefusesMoment r refused.Memory = ⊤
RefusesMoment r other = ⊥

-- why the first entry was not taken, whatever follows it
abbrev pub RefusesFirst : Given → ℕ → List ℕ → EngineError → Type 0
RefusesFirst given run item refused.Memory = ⊤
RefusesFirst given run item error = (others : List (List ℕ)) → RefusesEntries given run (item ∷ others) error

-- why the entries were not taken
abbrev pub RefusesReplay : Given → ℕ → List (List ℕ) → EngineError → Type 0
RefusesReplay given run items refused.Memory = ⊤
RefusesReplay given run items error = RefusesEntries given run items error
