-- Promise: The record that an object tells of.
use Rattle.std.specs.Prelude.{ℕ, List, [], ◌∷◌, codes, Option, Some, None, if◌then◌else◌}
use Rattle.std.specs.Str.{bytes_eq}
use Rattle.base_decimals.specs.Numbers as decimals
use Rattle.serde_json.specs.Data.{Data, Items, array, item, no_items, number, string, unsigned}
use Rattle.serde_json.specs.Find.{get}
use Rattle.run_records.specs.Fields.{◌>>=◌}
use Rattle.run_records.specs.declared.record.Record.{Record}
use Rattle.run_records.specs.declared.record.Record.TheVariants as entry

-- a number, or the text of its digits
abbrev pub number_in : Data → Option ℕ
number_in (number (unsigned n)) = Some n
number_in (string digits) = decimals.number 18_446_744_073_709_551_615 digits
number_in other = None

abbrev pub bytes_in : Items → Option (List ℕ)
bytes_in no_items = Some []
bytes_in (item (number (unsigned b)) rest) = bytes_in rest >>= λ bs. Some (b ∷ bs)
bytes_in other = None

-- a text, or the list of its bytes
abbrev pub text_in : Data → Option (List ℕ)
text_in (string text) = Some text
text_in (array bytes) = bytes_in bytes
text_in other = None

abbrev pub all_texts : Items → Option (List (List ℕ))
all_texts no_items = Some []
all_texts (item first rest) = do
  text ← text_in first
  texts ← all_texts rest
  Some (text ∷ texts)

abbrev pub texts_in : Data → Option (List (List ℕ))
texts_in (array items) = all_texts items
texts_in other = None

-- the number, the text and the texts of the member with this name
abbrev pub number_at : List ℕ → Data → Option ℕ
number_at name d = get name d >>= number_in

abbrev pub text_at : List ℕ → Data → Option (List ℕ)
text_at name d = get name d >>= text_in

abbrev pub texts_at : List ℕ → Data → Option (List (List ℕ))
texts_at name d = get name d >>= texts_in

-- ---- each kind of record

abbrev pub begin_in : Data → Option Record
begin_in d = do
  run ← number_at (codes "run") d
  moment ← number_at (codes "moment") d
  books ← texts_at (codes "books") d
  bind ← text_at (codes "bind") d
  Some (entry.Begin run moment books bind)

abbrev pub walk_in : Data → Option Record
walk_in d = do
  task ← number_at (codes "task") d
  moment ← number_at (codes "moment") d
  Some (entry.Walk task moment)

abbrev pub send_in : Data → Option Record
send_in d = do
  task ← number_at (codes "task") d
  issue ← number_at (codes "issue") d
  agent ← number_at (codes "agent") d
  moment ← number_at (codes "moment") d
  command ← text_at (codes "command") d
  Some (entry.Send task issue agent moment command)

abbrev pub reply_in : Data → Option Record
reply_in d = do
  issue ← number_at (codes "issue") d
  moment ← number_at (codes "moment") d
  status ← number_at (codes "status") d
  rule ← number_at (codes "rule") d
  text ← text_at (codes "text") d
  Some (entry.Reply issue moment status rule text)

abbrev pub expire_in : Data → Option Record
expire_in d = do
  issue ← number_at (codes "issue") d
  moment ← number_at (codes "moment") d
  Some (entry.Expire issue moment)

abbrev pub upgrade_in : Data → Option Record
upgrade_in d = do
  version ← number_at (codes "version") d
  moment ← number_at (codes "moment") d
  Some (entry.Upgrade version moment)

abbrev pub ask_in : Data → Option Record
ask_in d = do
  task ← number_at (codes "task") d
  issue ← number_at (codes "issue") d
  moment ← number_at (codes "moment") d
  question ← text_at (codes "question") d
  Some (entry.Ask task issue moment question)

abbrev pub told_in : Data → Option Record
told_in d = do
  issue ← number_at (codes "issue") d
  moment ← number_at (codes "moment") d
  status ← number_at (codes "status") d
  answer ← text_at (codes "answer") d
  Some (entry.Told issue moment status answer)

abbrev pub record_of_kind : List ℕ → Data → Option Record
record_of_kind kind d =
    if bytes_eq kind (codes "begin") then begin_in d
    else (if bytes_eq kind (codes "walk") then walk_in d
    else (if bytes_eq kind (codes "send") then send_in d
    else (if bytes_eq kind (codes "reply") then reply_in d
    else (if bytes_eq kind (codes "expire") then expire_in d
    else (if bytes_eq kind (codes "upgrade") then upgrade_in d
    else (if bytes_eq kind (codes "ask") then ask_in d
    else (if bytes_eq kind (codes "told") then told_in d else None)))))))

abbrev pub record_in : Data → Option Record
record_in d = text_at (codes "kind") d >>= λ kind. record_of_kind kind d
