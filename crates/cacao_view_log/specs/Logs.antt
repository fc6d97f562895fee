-- Promise: What is told of the records in an engine's file.
use Rattle.std.specs.Prelude.{◌≡◌, ◌⊎◌, ℕ, List, [], length, take, Some, slice_get}
use Rattle.run_journal.specs.Layout.{Stands}
use Rattle.run_records.specs.declared.record.Record.{Record}
use Rattle.flow_core_rules.specs.Givens.{Given}
use Rattle.flow_core_rules.specs.State.{Shown}
use Rattle.flow_engine_history.specs.Histories.{IsShownBefore}
use Rattle.flow_engine_reports.specs.RunFiles.{TellsRun}
use Rattle.cacao_view_log.specs.Senders.{senders}
use Rattle.cacao_view_log.specs.Texts.{record_text}
use Rattle.cacao_view_log.specs.declared.form.Form.{Form}

-- the text with this number tells the record with it, by what was shown before that, and by the records before it
pub record IsToldAt (form : Form) (given : Given) (run : ℕ) (records : List Record) (texts : List (List ℕ)) (n : ℕ)
    (r : Record) : Type 0 where
  pub before : Shown
  pub shows : IsShownBefore given run (take n records) before
  pub told : slice_get texts n ≡ Some (record_text form run before (senders (take n records)) n r)

-- the texts tell the records, one a record
pub record AreTold (form : Form) (given : Given) (run : ℕ) (records : List Record) (texts : List (List ℕ)) : Type 0 where
  pub many : length texts ≡ length records
  pub each : (n : ℕ) (r : Record) → slice_get records n ≡ Some r → IsToldAt form given run records texts n r

-- the entries are the records of a run, and the texts tell them
pub record LogsRun (form : Form) (entries texts : List (List ℕ)) : Type 0 where
  pub records : List Record
  pub seen : Shown
  pub tells : TellsRun entries records seen
  pub told : AreTold form seen.given seen.run records texts

-- a file without a record has no text
abbrev pub Logs : Form → List (List ℕ) → List (List ℕ) → Type 0
Logs form entries texts = ((entries ≡ []) × (texts ≡ [])) ⊎ LogsRun form entries texts

-- the bytes stand for entries of which this is told
abbrev pub HoldsLog : Form → List ℕ → List (List ℕ) → Type 0
HoldsLog form image texts = (entries : List (List ℕ)) × Stands image entries × Logs form entries texts
