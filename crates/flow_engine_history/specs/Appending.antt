-- Scaffold: The parts of an append: the room for a record, and its entry.
use Rattle.std.specs.Prelude.{◌≡◌, ℕ, ◌+◌, ◌<◌, ◌≤◌, true, List, length, Option, Some, option_and_then, ⊤}
use Rattle.cacao_site.specs.Counts.{Rose}
use Rattle.cacao_site.specs.View.{SiteView}
use Rattle.run_journal.specs.JournalView.{JournalView}
use Rattle.run_journal.specs.Layout.{front}
use Rattle.flow_core_rules.specs.Edits.{Edit}
use Rattle.flow_core.specs.Views.{View, passed}
use Rattle.flow_core.specs.declared.flow_errors.LimitKind.TheVariants as limit
use Rattle.flow_engine_history.specs.declared.error.EngineError.{EngineError}
use Rattle.flow_engine_history.specs.declared.error.EngineError.TheVariants as refused

-- of a journal at most the room changed
pub record IsSameJournal (j k : JournalView) : Type 0 where
  pub file : k.file ≡ j.file
  pub items : k.items ≡ j.items
  pub broken : k.broken ≡ j.broken
  pub prepared : k.prepared ≡ j.prepared

-- of a flow at most what it is ready for
pub record IsSameFlow (v w : View) : Type 0 where
  pub count : w.count ≡ v.count
  pub seen : w.seen ≡ v.seen

-- Why no room was made for a record that changes so much: it passes a limit of the flow. Want of memory is free.
abbrev pub RefusesRoom : View → Option (List Edit) → EngineError → Type 0
RefusesRoom v edits (refused.Limit what) = option_and_then (passed v.seen) edits ≡ Some what
RefusesRoom v edits refused.Memory = ⊤
RefusesRoom v edits other = ⊥

-- how many bytes the file has with one entry more, up to its closed gate and with it
abbrev pub length_with_entry : JournalView → List ℕ → ℕ
length_with_entry j entry = length (front j.items) + 6 + length entry

-- why an entry was not added, and what that left
abbrev pub RefusesEntry : JournalView → JournalView → List ℕ → EngineError → SiteView → SiteView → Type 0
RefusesEntry j k entry refused.Disk old new =
    (k.broken ≡ true) × (length_with_entry j entry ≤ 67_108_864) × Rose old.disk.faults new.disk.faults
RefusesEntry j k entry (refused.Limit what) old new =
    (what ≡ limit.Journal) × (67_108_864 < length_with_entry j entry) × (k ≡ j) × (new ≡ old)
RefusesEntry j k entry other old new = ⊥
