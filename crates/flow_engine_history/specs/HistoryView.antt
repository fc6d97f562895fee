-- Promise: What contracts see of the history of a run.
use Rattle.std.specs.Prelude.{◌≡◌, ℕ, ◌+◌, Bool, false, List, map, length, None}
use Rattle.cacao_site.specs.DiskCalls.{AllLeft}
use Rattle.cacao_site.specs.View.{SiteView}
use Rattle.run_journal.specs.Durable.{IsImage}
use Rattle.run_journal.specs.Layout.{Stands, front}
use Rattle.run_records.specs.Layout.{layout}
use Rattle.run_records.specs.declared.record.Record.{Record}
use Rattle.flow_core_rules.specs.State.{Shown}
use Rattle.flow_core.specs.Views.{View}

-- A run and its file.
pub record HistoryView : Type 0 where
  pub records : List Record  -- the records so far
  pub seen : Shown  -- what is shown after them: the number of the run, what it was given, and how it stands
  pub prepared : Bool  -- whether the header of the file need not be written any more
  pub broken : Bool  -- whether a call answered that the disk failed

-- the entries of a file with these records
abbrev pub entries_of : List Record → List (List ℕ)
entries_of records = map layout records

-- the image stands for the records
abbrev pub HoldsRecords : List Record → List ℕ → Type 0
HoldsRecords records image = Stands image (entries_of records)

-- What holds of the file of a history, which is file 0, between its calls, until the disk failed: each image that a crash may
-- leave stands for the records, and has at most 9 bytes where the header is still to be written.
abbrev pub IsReady : HistoryView → SiteView → Type 0
IsReady h site = h.broken ≡ false → AllLeft 0 site.disk (IsImage h.prepared (entries_of h.records))

-- how many bytes the file has with one record more, up to its closed gate and with it
abbrev pub length_with : List Record → Record → ℕ
length_with records r = length (front (entries_of records)) + 6 + length (layout r)

-- the flow of a run, which took as many records as there are
abbrev pub flow_of : HistoryView → View
flow_of h = record { count = length h.records; seen = h.seen; plan = None }
