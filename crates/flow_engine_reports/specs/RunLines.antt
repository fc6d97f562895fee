-- Promise: The lines that tell of a run.
use Rattle.std.specs.Prelude.{◌≡◌, ◌⊎◌, ℕ, List, [], ◌∷◌, ◌++◌, length, codes}
use Rattle.oc2_nets.specs.Texts.{parts}
use Rattle.run_journal.specs.Layout.{Stands}
use Rattle.run_records.specs.declared.record.Record.{Record}
use Rattle.flow_core_rules.specs.Lines.{report}
use Rattle.flow_core_rules.specs.State.{Shown}
use Rattle.flow_engine_reports.specs.RunFiles.{TellsRun}

abbrev pub line_feed : ℕ
line_feed = 10

-- what stands before each line feed, with it
abbrev pub each_line : List (List ℕ) → List (List ℕ)
each_line [] = []
each_line (rest ∷ []) = []
each_line (line ∷ next ∷ lines) = (line ++ line_feed ∷ []) ∷ each_line (next ∷ lines)

-- the lines of a text, each with its line feed
unfoldable pub lines_of : List ℕ → List (List ℕ)
lines_of text = each_line (parts line_feed text)

-- what is said of a file without a record
abbrev pub no_run : List ℕ
no_run = codes "no run\n"

-- a run, and its report
pub record ReportsRun (entries : List (List ℕ)) (text : List ℕ) : Type 0 where
  pub records : List Record
  pub seen : Shown
  pub tells : TellsRun entries records seen
  pub is : text ≡ report seen (length records)

-- what is said of these entries
abbrev pub Reports : List (List ℕ) → List ℕ → Type 0
Reports entries text = ((entries ≡ []) × (text ≡ no_run)) ⊎ ReportsRun entries text

-- the bytes stand for entries of which this is said
abbrev pub HoldsReport : List ℕ → List ℕ → Type 0
HoldsReport image text = (entries : List (List ℕ)) × Stands image entries × Reports entries text
