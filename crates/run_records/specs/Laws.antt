-- Promise: Laws of the layouts.
use Rattle.std.specs.Prelude.{◌≡◌, ◌≤◌, List, length, map, Some}
use Rattle.std.specs.List.{AllByRecursion}
use Rattle.run_records.specs.declared.record.Record.{Record}
use Rattle.run_records.specs.declared.act.Act.{Act}
use Rattle.run_records.specs.Layout.{layout, act_layout}
use Rattle.run_records.specs.Ranges.{InRange, ActInRange}
use Rattle.run_records.specs.Lists.{records, acts}

-- no two records in range have one layout
abbrev pub OneRecordALayout : Type 0
OneRecordALayout = (r s : Record) → InRange r → InRange s → layout r ≡ layout s → r ≡ s

-- nor have two acts
abbrev pub OneActALayout : Type 0
OneActALayout = (a b : Act) → ActInRange a → ActInRange b → act_layout a ≡ act_layout b → a ≡ b

-- a record fits an entry of a journal, and so does an act
abbrev pub RecordsAreShort : Type 0
RecordsAreShort = (r : Record) → InRange r → length (layout r) ≤ 17_825_878

abbrev pub ActsAreShort : Type 0
ActsAreShort = (a : Act) → ActInRange a → length (act_layout a) ≤ 2_097_181

-- the entries that are written of records are those records, and those of acts are those acts
abbrev pub RecordsReadBack : Type 0
RecordsReadBack = (rs : List Record) → AllByRecursion InRange rs → records (map layout rs) ≡ Some rs

abbrev pub ActsReadBack : Type 0
ActsReadBack = (list : List Act) → AllByRecursion ActInRange list → acts (map act_layout list) ≡ Some list
