-- Scaffold: The parts of a record's line.
use Rattle.std.specs.Prelude.{◌≡◌, ℕ, List, [], option_map, take, unwrap_or, ⊤}
use Rattle.run_records.specs.declared.record.Record.{Record}
use Rattle.run_records.specs.declared.record.Record.TheVariants as entry
use Rattle.flow_core_rules.specs.Givens.{Given, step_at}
use Rattle.flow_core_rules.specs.Lines.{key_of}
use Rattle.flow_core_rules.specs.State.{Shown}
use Rattle.flow_engine_history.specs.HistoryView.{HistoryView}
use Rattle.flow_engine_history.specs.Histories.{IsShownBefore}

-- of a Walk the text is the key of the step at which its task stood
abbrev pub IsKeyFor : Shown → Record → List ℕ → Type 0
IsKeyFor before (entry.Walk task moment) key = key ≡ key_of before task
IsKeyFor before other key = ⊤

-- the text is that of the record with this number
pub record IsKeyAt (h : HistoryView) (n : ℕ) (r : Record) (key : List ℕ) : Type 0 where
  pub before : Shown
  pub shows : IsShownBefore h.seen.given h.seen.run (take n h.records) before
  pub key_is : IsKeyFor before r key

-- the key of the step with the numbers of a playbook and of a step in it; the empty text where there is none
abbrev pub key_at : Given → ℕ × ℕ → List ℕ
key_at given stand = unwrap_or (option_map (λ step. step.key) (step_at given stand.0 stand.1)) []
