-- Scaffold: What a `History` keeps.
use Rattle.std.specs.Prelude.{◌≡◌, ◌&&◌, ℕ, nat_le, List, [], length, take, Option, Some, None, option_map, slice_get, unwrap_or, if◌then◌else◌}
use Rattle.std.specs.List.{AllByRecursion}
use Rattle.run_records.specs.Lists.{records}
use Rattle.run_records.specs.Ranges.{InRange}
use Rattle.run_records.specs.declared.record.Record.{Record}
use Rattle.run_records.specs.declared.record.Record.TheVariants as entry
use Rattle.flow_core_rules.specs.Givens.{Given}
use Rattle.flow_core_rules.specs.State.{Shown}
use Rattle.flow_engine_history.specs.declared.history.History.TheInside.{Inside}
use Rattle.flow_engine_history.specs.HistoryView.{HistoryView, entries_of}
use Rattle.flow_engine_history.specs.Histories.{IsShownBefore, IsSoFar}

-- the records of the entries
abbrev pub records_of : List (List ℕ) → List Record
records_of entries = unwrap_or (records entries) []

-- The numbers of a playbook and of a step in 16 bits each; 65,535 and 0, which no run has, where there are none, or one is larger.
abbrev pub narrow : Option (ℕ × ℕ) → ℕ × ℕ
narrow None = (65535, 0)
narrow (Some at) = if nat_le at.0 65535 && nat_le at.1 65535 then (at.0, at.1) else (65535, 0)

-- Of a Walk: the numbers of the playbook and of the step at which its task stood, by what was shown before.
abbrev pub stand_before : Shown → Record → ℕ × ℕ
stand_before before (entry.Walk task moment) = narrow (option_map (λ one. (one.book, one.step)) (slice_get before.lists.tasks task))
stand_before before other = (65535, 0)

-- that of the record with this number is kept
pub record IsStand (given : Given) (run : ℕ) (records : List Record) (stands : List (ℕ × ℕ)) (n : ℕ)
    (r : Record) : Type 0 where
  pub before : Shown
  pub shows : IsShownBefore given run (take n records) before
  pub kept : slice_get stands n ≡ Some (stand_before before r)

abbrev pub AreStands : Given → ℕ → List Record → List (ℕ × ℕ) → Type 0
AreStands given run records stands = (n : ℕ) (r : Record) → slice_get records n ≡ Some r → IsStand given run records stands n r

abbrev pub history_view : Inside → HistoryView
history_view h = record {
  records = records_of h.journal.items;
  seen = h.flow.seen;
  prepared = h.journal.prepared;
  broken = h.journal.broken;
}

-- the journal of file 0 has the records, the flow took them, and of each Walk it is kept where its task stood
pub record IsKept (h : Inside) : Type 0 where
  pub file : h.journal.file ≡ 0
  pub entries : h.journal.items ≡ entries_of (records_of h.journal.items)
  pub ranges : AllByRecursion InRange (records_of h.journal.items)
  pub count : h.flow.count ≡ length (records_of h.journal.items)
  pub so_far : IsSoFar (records_of h.journal.items) h.flow.seen
  pub stands : AreStands h.flow.seen.given h.flow.seen.run (records_of h.journal.items) h.stands.items
  pub many : length h.stands.items ≡ length (records_of h.journal.items)
