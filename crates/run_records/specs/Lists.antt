-- Promise: The records and the acts that the entries of a journal are.
use Rattle.std.specs.Prelude.{ℕ, List, [], ◌∷◌, Option, Some}
use Rattle.run_records.specs.declared.record.Record.{Record}
use Rattle.run_records.specs.declared.act.Act.{Act}
use Rattle.run_records.specs.Fields.{◌>>=◌}
use Rattle.run_records.specs.Reading.{record_of, act_of}

-- what each entry reads as; none where one of them has no reading
abbrev pub all_read : {A : Type 0} → (List ℕ → Option A) → List (List ℕ) → Option (List A)
all_read read [] = Some []
all_read read (entry ∷ entries) = do
  first ← read entry
  others ← all_read read entries
  Some (first ∷ others)

-- the records of the entries of file 0, and the acts of those of a filter's file
abbrev pub records : List (List ℕ) → Option (List Record)
records entries = all_read record_of entries

abbrev pub acts : List (List ℕ) → Option (List Act)
acts entries = all_read act_of entries
