-- Promise: Where records and acts break their agreement.
use Rattle.std.specs.Prelude.{◌≡◌, ℕ, suc, ◌<◌, ◌≤◌, List, length, take, Some, slice_get, All, ⊤}
use Rattle.cacao_check.specs.Fits.{FitsKind}
use Rattle.run_records.specs.declared.record.Record.{Record}
use Rattle.run_records.specs.declared.record.Record.TheVariants as entry
use Rattle.run_records.specs.declared.act.Act.{Act}
use Rattle.slpf_rules_acts.specs.Acts.{IsOther, IsReplied}
use Rattle.flow_core_rules.specs.Accepted.{IsRunOf}
use Rattle.flow_laws.specs.Acts.{ReadsAs}
use Rattle.flow_laws.specs.Agree.{IsActedOn}
use Rattle.flow_laws.specs.Journals.{AreAccepted, IsJournalRun, IsSent, run_of}

-- ---- the run

-- the records before this one are a run, and with it they are none: it is no Begin, or no next step
pub record BreaksRun (records : List Record) (n : ℕ) : Type 0 where
  pub there : n < length records
  pub before : IsJournalRun (take n records)
  pub breaks : ¬ IsJournalRun (take (suc n) records)

abbrev pub most_tasks : ℕ
most_tasks = 1_000_000

-- this record is a next step that makes more than 1,000,000 tasks of a run within that number
pub record PassesTasks (records : List Record) (n : ℕ) : Type 0 where
  pub before : IsRunOf AreAccepted FitsKind (take n records)
  pub few : length before.state.tasks ≤ most_tasks
  pub next : IsRunOf AreAccepted FitsKind (take (suc n) records)
  pub many : most_tasks < length next.state.tasks

-- none does
abbrev pub IsWithinTasks : List Record → Type 0
IsWithinTasks records = (n : ℕ) → ¬ PassesTasks records n

-- ---- acts

-- An act of a filter behind these ones of it: none of them has its run and issue, its reply is that of the table, and where it is
-- of the journal's run, it is on a Send to the filter.
pub record FitsAct (records : List Record) (agent : ℕ) (before : List Act) (act : Act) : Type 0 where
  pub other : All (λ a. IsOther a act) before
  pub replied : IsReplied before act
  pub sent : run_of records ≡ Some act.run → IsSent records act.issue agent act.command

-- each act of a filter fits
abbrev pub ActsFit : List Record → ℕ → List Act → Type 0
ActsFit records agent acts = (n : ℕ) (act : Act) → slice_get acts n ≡ Some act → FitsAct records agent (take n acts) act

-- this act is the first of a filter that does not
pub record BreaksActs (records : List Record) (agent : ℕ) (acts : List Act) (n : ℕ) : Type 0 where
  pub act : Act
  pub there : slice_get acts n ≡ Some act
  pub breaks : ¬ FitsAct records agent (take n acts) act
  pub before : ActsFit records agent (take n acts)

-- ---- replies

-- a Reply is what the reply of an act on its issue reads as
abbrev pub HasItsAct : List Record → (ℕ → List Act) → Record → Type 0
HasItsAct records acts (entry.Reply issue moment status rule text) =
    (run : ℕ) → run_of records ≡ Some run → IsActedOn records acts run issue (ReadsAs status rule text)
HasItsAct records acts other = ⊤

abbrev pub RepliesHaveActs : List Record → (ℕ → List Act) → List Record → Type 0
RepliesHaveActs records acts some = (k : ℕ) (r : Record) → slice_get some k ≡ Some r → HasItsAct records acts r

-- this record is the first Reply that is not
pub record LacksAct (records : List Record) (acts : ℕ → List Act) (n : ℕ) : Type 0 where
  pub r : Record
  pub there : slice_get records n ≡ Some r
  pub lacks : ¬ HasItsAct records acts r
  pub before : RepliesHaveActs records acts (take n records)
