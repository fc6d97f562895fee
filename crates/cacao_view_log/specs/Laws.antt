-- Promise: What holds of each line and of each object.
use Rattle.std.specs.Prelude.{◌≡◌, ℕ, ◌<◌, ◌≤◌, ◌^◌, List, Some, slice_get, ⊤}
use Rattle.std.specs.List.{AllByRecursion}
use Rattle.std.specs.Str.{IsUtf8}
use Rattle.cacao_json.specs.Reading.{tree}
use Rattle.cacao_text.specs.Canon.{canon}
use Rattle.run_records.specs.Ranges.{InRange}
use Rattle.run_records.specs.declared.record.Record.{Record}
use Rattle.run_records.specs.declared.record.Record.TheVariants as entry
use Rattle.flow_core_rules.specs.State.{Shown}
use Rattle.flow_engine_history.specs.Histories.{IsLineAt}
use Rattle.flow_engine_history.specs.HistoryView.{HistoryView}
use Rattle.cacao_view_log.specs.Logs.{AreTold}
use Rattle.cacao_view_log.specs.Objects.{most_whole, record_object}
use Rattle.cacao_view_log.specs.ReadBack.{record_in}
use Rattle.cacao_view_log.specs.Senders.{senders, step_key}
use Rattle.cacao_view_log.specs.declared.sender.Sender.{Sender}
use Rattle.cacao_view_log.specs.declared.form.Form.TheVariants as form

-- a line that tells a record of a run is the line that the history of that run has of it
abbrev pub LinesAreSaid : Type 0
LinesAreSaid = (h : HistoryView) (lines : List (List ℕ)) → AreTold form.Line h.seen.given h.seen.run h.records lines
    → (n : ℕ) (line : List ℕ) → slice_get lines n ≡ Some line → IsLineAt h n line

-- the object of a record reads back to the record
abbrev pub ObjectsReadBack : Type 0
ObjectsReadBack = (run : ℕ) (before : Shown) (sent : List Sender) (n : ℕ) (r : Record) → InRange r
    → record_in (record_object run before sent n r) ≡ Some r

-- the texts of a record are UTF-8; that of a Reply, an Ask or a Told is by its range
abbrev pub AreTexts : Record → Type 0
AreTexts (entry.Begin run moment books bind) = AllByRecursion IsUtf8 books × IsUtf8 bind
AreTexts (entry.Send task issue agent moment command) = IsUtf8 command
AreTexts other = ⊤

-- then its canonical text has the object as its tree, behind these records, where the key of its step is UTF-8 too
abbrev pub ObjectsHaveTrees : Type 0
ObjectsHaveTrees = (run : ℕ) (before : Shown) (earlier : List Record) (n : ℕ) (r : Record) → AllByRecursion InRange earlier → InRange r
    → run < 2 ^ 64 → n ≤ most_whole → AreTexts r → IsUtf8 (step_key before (senders earlier) r)
    → tree (canon (record_object run before (senders earlier) n r)) ≡ Some (record_object run before (senders earlier) n r)
