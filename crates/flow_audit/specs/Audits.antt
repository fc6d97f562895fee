-- Promise: Verdicts: whether the files agree, and where they first do not.
use Rattle.std.specs.Prelude.{◌≡◌, ◌⊎◌, ℕ, ◌<◌, List, [], length, sum_by}
use Rattle.run_records.specs.declared.record.Record.{Record}
use Rattle.run_records.specs.declared.act.Act.{Act}
use Rattle.flow_laws.specs.Agree.{Agree}
use Rattle.flow_laws.specs.Images.{IsAgent}
use Rattle.flow_laws.specs.Journals.{IsJournalRun}
use Rattle.flow_audit.specs.Files.{AreRead, IsFirstBadFile, IsGate, acts_of, image_of}
use Rattle.flow_audit.specs.Breaks.{ActsFit, BreaksActs, BreaksRun, LacksAct, PassesTasks}
use Rattle.flow_audit.specs.declared.verdict.Verdict17.{Verdict17}
use Rattle.flow_audit.specs.declared.verdict.Verdict17.TheVariants as verdict

-- The files stand for records and acts that agree, no parcel being put; there are so many.
pub record AllAgree (files : List (List ℕ)) (records acts : ℕ) : Type 0 where
  pub all : List Record
  pub lists : List (List Act)
  pub are : AreRead files all lists
  pub agree : Agree all (acts_of lists) []
  pub records_are : records ≡ length all
  pub acts_are : acts ≡ sum_by (λ (acts : List Act). length acts) lists

-- File 0's first record that breaks the run; else the least filter's file with an act that does not fit, and its first such act;
-- else file 0's first Reply without its act.
abbrev pub BreaksAt : List Record → List (List Act) → ℕ → ℕ → Type 0
BreaksAt records lists file n =
    ((file ≡ 0) × BreaksRun records n)
    ⊎ ((IsJournalRun records × IsAgent file × BreaksActs records file (acts_of lists file) n
    × ((agent : ℕ) → IsAgent agent → agent < file → ActsFit records agent (acts_of lists agent)))
    ⊎ ((file ≡ 0) × IsJournalRun records × ((agent : ℕ) → IsAgent agent → ActsFit records agent (acts_of lists agent))
    × LacksAct records (acts_of lists) n))

-- all files have a reading, and this entry of a file is the first that breaks the agreement
pub record Disagrees (files : List (List ℕ)) (file place : ℕ) : Type 0 where
  pub records : List Record
  pub lists : List (List Act)
  pub n : ℕ
  pub are : AreRead files records lists
  pub breaks : BreaksAt records lists file n
  pub at : IsGate (image_of files file) n place

-- the verdict on the files
abbrev pub IsVerdict : List (List ℕ) → Verdict17 → Type 0
IsVerdict files (verdict.Yes records acts) = AllAgree files records acts
IsVerdict files (verdict.No file place) = IsFirstBadFile files file place ⊎ Disagrees files file place

-- all files have a reading, and the record of file 0 with the gate at this place makes more than 1,000,000 tasks
pub record PassesTasksAt (files : List (List ℕ)) (place : ℕ) : Type 0 where
  pub records : List Record
  pub lists : List (List Act)
  pub n : ℕ
  pub are : AreRead files records lists
  pub passes : PassesTasks records n
  pub at : IsGate (image_of files 0) n place
