-- An image stands for at most one list of records, and for at most one list of acts.
use Rattle.std.proofs.Common.{◌≡◌, ℕ, List, [], ◌∷◌, refl, sym, ◌∙◌, subst, ap}
use Rattle.std.specs.Prelude.{map, Option, Some, None}
use Rattle.std.specs.List.{AllByRecursion}
use Rattle.run_journal.specs.Layout.{Stands}
use Rattle.run_journal.proofs.LayoutLaws.{one_list}
use Rattle.run_records.specs.Layout.{layout, act_layout}
use Rattle.run_records.specs.Ranges.{InRange, ActInRange}
use Rattle.run_records.specs.Fields.{◌>>=◌}
use Rattle.run_records.specs.Reading.{record_of}
use Rattle.run_records.specs.Lists.{records as records_in, acts as acts_in}
use Rattle.run_records.proofs.EntryLemmas.{records_read_back, acts_read_back}
use Rattle.run_records.specs.declared.record.Record.{Record}
use Rattle.run_records.specs.declared.act.Act.{Act}
use Rattle.flow_laws.specs.Images.{IsRecords, IsActs}
use Rattle.flow_laws.proofs.Basics.{same_some}

pub same_records : (image : List ℕ) (xs ys : List Record) → IsRecords image xs → IsRecords image ys → xs ≡ ys
same_records image xs ys p q = same_some (sym p.reads ∙ ap records_in (one_list image p.entries q.entries p.stands q.stands) ∙ q.reads)

pub same_acts : (image : List ℕ) (xs ys : List Act) → IsActs image xs → IsActs image ys → xs ≡ ys
same_acts image xs ys p q = same_some (sym p.reads ∙ ap acts_in (one_list image p.entries q.entries p.stands q.stands) ∙ q.reads)

-- one entry at least reads as one record at least
none_read : (first : Option Record) (others : Option (List Record)) → (first >>= (λ r. others >>= (λ rs. Some (r ∷ rs)))) ≡ Some [] → ⊥
none_read None others e = cc
none_read (Some r) None e = cc
none_read (Some r) (Some rs) e = cc

-- an image of the empty list stands for no record
pub empty_records : (image : List ℕ) → Stands image [] → IsRecords image []
empty_records image stands = record { entries = []; stands = stands; reads = refl }

pub none_of_empty : (image : List ℕ) (records : List Record) → Stands image [] → IsRecords image records → records ≡ []
none_of_empty image records empty are = same_records image records [] are (empty_records image empty)

no_entries : (entries : List (List ℕ)) → records_in entries ≡ Some [] → entries ≡ []
no_entries [] reads = refl
no_entries (entry ∷ entries) reads = absurd (none_read (record_of entry) (records_in entries) reads)

-- and an image of no record is one of the empty list
pub stands_empty : (image : List ℕ) → IsRecords image [] → Stands image []
stands_empty image is = subst (λ (l : List (List ℕ)). Stands image l) (no_entries is.entries is.reads) is.stands

-- an image of the empty list stands for no act
pub empty_acts : (image : List ℕ) → Stands image [] → IsActs image []
empty_acts image stands = record { entries = []; stands = stands; reads = refl }

-- what is written of records stands for them, and so does what is written of acts
pub records_of_layout : (image : List ℕ) (records : List Record) → AllByRecursion InRange records → Stands image (map layout records) → IsRecords image records
records_of_layout image records ranges stands = record { entries = map layout records; stands = stands; reads = records_read_back records ranges }

pub acts_of_layout : (image : List ℕ) (acts : List Act) → AllByRecursion ActInRange acts → Stands image (map act_layout acts) → IsActs image acts
acts_of_layout image acts ranges stands = record { entries = map act_layout acts; stands = stands; reads = acts_read_back acts ranges }
