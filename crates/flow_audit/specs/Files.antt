-- Promise: What the bytes of the files stand for. File 0 is that of the run, files 1 to 16 are those of the filters with these numbers.
use Rattle.std.specs.Prelude.{◌≡◌, ◌⊎◌, ℕ, zero, suc, ◌<◌, ◌≤◌, List, [], length, take, Option, Some, None, IsSome, slice_get, slice_index_or}
use Rattle.run_journal.specs.Layout.{IsDamagedAt, Stands, front}
use Rattle.run_records.specs.declared.record.Record.{Record}
use Rattle.run_records.specs.declared.act.Act.{Act}
use Rattle.run_records.specs.Lists.{all_read}
use Rattle.run_records.specs.Reading.{act_of, record_of}
use Rattle.flow_laws.specs.Images.{IsActs, IsAgent, IsRecords}

-- the bytes of a file, none of one that is absent
abbrev pub image_of : List (List ℕ) → ℕ → List ℕ
image_of files file = slice_index_or files file []

-- the place of the gate of the entry with this number
abbrev pub gate_of : List (List ℕ) → ℕ → ℕ
gate_of entries n = length (front (take n entries))

-- the first entry without a reading has its gate at this place
pub record HasStray {A : Type 0} (read : List ℕ → Option A) (image : List ℕ) (place : ℕ) : Type 0 where
  pub entries : List (List ℕ)
  pub n : ℕ
  pub stray : List ℕ
  pub stands : Stands image entries
  pub there : slice_get entries n ≡ Some stray
  pub unread : read stray ≡ None
  pub before : IsSome (all_read read (take n entries))
  pub at : place ≡ gate_of entries n

-- the image stands for no list, or for one with an entry without a reading
abbrev pub IsUnreadable : {A : Type 0} → (List ℕ → Option A) → List ℕ → ℕ → Type 0
IsUnreadable read image place = IsDamagedAt image place ⊎ HasStray read image place

-- a file has no reading, and where
abbrev pub IsBadFile : List (List ℕ) → ℕ → ℕ → Type 0
IsBadFile files zero place = IsUnreadable record_of (image_of files 0) place
IsBadFile files (suc n) place = IsUnreadable act_of (image_of files (suc n)) place

-- a file has a reading
abbrev pub IsGoodFile : List (List ℕ) → ℕ → Type 0
IsGoodFile files zero = (records : List Record) × IsRecords (image_of files 0) records
IsGoodFile files (suc n) = (acts : List Act) × IsActs (image_of files (suc n)) acts

-- the least file without a reading, and where
pub record IsFirstBadFile (files : List (List ℕ)) (file place : ℕ) : Type 0 where
  pub within : file ≤ 16
  pub bad : IsBadFile files file place
  pub before : (k : ℕ) → k < file → IsGoodFile files k

-- the acts of a filter, of the lists of all filters from 1 on
abbrev pub acts_of : List (List Act) → ℕ → List Act
acts_of lists zero = []
acts_of lists (suc n) = slice_index_or lists n []

-- the files stand for these records and for these acts of the sixteen filters
pub record AreRead (files : List (List ℕ)) (records : List Record) (lists : List (List Act)) : Type 0 where
  pub journal : IsRecords (image_of files 0) records
  pub many : length lists ≡ 16
  pub filters : (agent : ℕ) → IsAgent agent → IsActs (image_of files agent) (acts_of lists agent)

-- the gate of the entry with this number of a file has this place
pub record IsGate (image : List ℕ) (n place : ℕ) : Type 0 where
  pub entries : List (List ℕ)
  pub stands : Stands image entries
  pub at : place ≡ gate_of entries n
