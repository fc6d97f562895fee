-- Promise: What becomes of a record that is appended to the history of a run.
use Rattle.std.specs.Prelude.{◌≡◌, ◌⊎◌, ℕ, ◌+◌, ◌≤◌, nat_lt, true, false, List, [], ◌∷◌, ◌++◌, length, Option, Some, None, IsSome, option_and_then, if◌then◌else◌}
use Rattle.std.specs.Option.{option_or}
use Rattle.cacao_site.specs.Counts.{Rose}
use Rattle.cacao_site.specs.DiskCalls.{OnlyFile}
use Rattle.cacao_site.specs.View.{SiteView}
use Rattle.run_journal.specs.Durable.{header_calls, header_bytes}
use Rattle.run_records.specs.Layout.{layout}
use Rattle.run_records.specs.Ranges.{InRange}
use Rattle.run_records.specs.declared.record.Record.{Record}
use Rattle.flow_core_rules.specs.Changes.{moment_of}
use Rattle.flow_core_rules.specs.Edits.{Edit}
use Rattle.flow_core_rules.specs.Moves.{record_of}
use Rattle.flow_core_rules.specs.Runs.{shown_after}
use Rattle.flow_core_rules.specs.declared.moves.Move.{Move}
use Rattle.flow_core.specs.Views.{AsksText, View, passed, taken, taken_by}
use Rattle.flow_core.specs.declared.flow_errors.LimitKind.{LimitKind}
use Rattle.flow_core.specs.declared.flow_errors.LimitKind.TheVariants as limit
use Rattle.flow_engine_history.specs.HistoryView.{HistoryView, HoldsRecords, flow_of, length_with}
use Rattle.flow_engine_history.specs.declared.error.EngineError.{EngineError}
use Rattle.flow_engine_history.specs.declared.error.EngineError.TheVariants as refused

-- the record itself
abbrev pub Is : Record → Record → Type 0
Is r next = next ≡ r

-- that of a move at a moment
abbrev pub IsOfMove : HistoryView → Move → ℕ → Record → Type 0
IsOfMove h step moment next = record_of h.seen moment step ≡ Some next

-- A move has a record that may come next; where that passes no limit of the flow, and asks by a text, it is in range.
pub record MayMove (v : View) (step : Move) (moment : ℕ) : Type 0 where
  pub comes : IsSome (taken_by v moment step)
  pub in_range : (next : Record) → record_of v.seen moment step ≡ Some next → AsksText next
      → option_and_then (passed v.seen) (taken_by v moment step) ≡ None → InRange next

-- the limit that a record passes which changes so much: that on tasks, on the bytes of a command, or on those of the file
abbrev pub limit_of : HistoryView → Record → List Edit → Option LimitKind
limit_of h next edits =
    option_or (passed h.seen edits) (if nat_lt 67_108_864 (length_with h.records next) then Some limit.Journal else None)

-- A record of that kind may come next, and changes so much. (One that passes the limit on the bytes of a command is not in range.)
pub record MayCome (h : HistoryView) (IsNext : Record → Type 0) : Type 0 where
  pub next : Record
  pub edits : List Edit
  pub is : IsNext next
  pub takes : taken (flow_of h) next ≡ Some edits

-- Such a record may have been added: file 0 alone may have changed, and each image of it at each beat stands for the records, or
-- for these and that one.
pub record Offers (h : HistoryView) (IsNext : Record → Type 0) (old new : SiteView) : Type 0 where
  pub comes : MayCome h IsNext
  pub in_range : InRange comes.next
  pub within : limit_of h comes.next comes.edits ≡ None
  pub whole : h.broken ≡ false
  pub file : OnlyFile 0 old new (λ image. HoldsRecords h.records image ⊎ HoldsRecords (h.records ++ comes.next ∷ []) image)
  pub calls : new.disk.calls ≤ old.disk.calls + (header_calls h.prepared + 4)
  pub written : new.disk.written ≤ old.disk.written + (header_bytes h.prepared + (length (layout comes.next) + 6))

-- the run with such a record
abbrev pub with_record : HistoryView → Record → List Edit → HistoryView
with_record h next edits = record {
  records = h.records ++ next ∷ [];
  seen = shown_after (moment_of next) edits h.seen;
  prepared = true;
  broken = false;
}

-- it was added, and no call of the disk failed
pub record Adds (h k : HistoryView) (IsNext : Record → Type 0) (old new : SiteView) : Type 0 where
  pub offers : Offers h IsNext old new
  pub steady : new.disk.faults ≡ old.disk.faults
  pub view : k ≡ with_record h offers.comes.next offers.comes.edits

-- such a record would pass this limit
pub record PassesLimit (h : HistoryView) (IsNext : Record → Type 0) (what : LimitKind) : Type 0 where
  pub comes : MayCome h IsNext
  pub passes : limit_of h comes.next comes.edits ≡ Some what
  pub whole : h.broken ≡ false

-- Each refusal with its cause and what it left. Want of memory is free. Where the disk failed the record may stand in the file.
abbrev pub Refuses : HistoryView → HistoryView → (Record → Type 0) → EngineError → SiteView → SiteView → Type 0
Refuses h k IsNext refused.Disk old new =
    Offers h IsNext old new × (k ≡ record h { prepared = k.prepared; broken = true }) × Rose old.disk.faults new.disk.faults
Refuses h k IsNext (refused.Limit what) old new = PassesLimit h IsNext what × (k ≡ h) × (new ≡ old)
Refuses h k IsNext refused.Broken old new = (h.broken ≡ true) × (k ≡ h) × (new ≡ old)
Refuses h k IsNext refused.Memory old new = (h.broken ≡ false) × (k ≡ h) × (new ≡ old)
Refuses h k IsNext other old new = ⊥
