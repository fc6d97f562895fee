-- Promise: How the logic stores the items and the members of data.
use Rattle.std.specs.Prelude.{◌≡◌, ℕ, ◌==◌, ℤ, pos, List, [], ◌∷◌, true, false, refl, if◌then◌else◌}
use Rattle.std.proofs.Common.{ap, ◌∙◌}
use Rattle.std.specs.Coded.{Coded, code_by, coded×, coded_ℕ, coded_ℤ, coded_list}
use base.Stored.{coded_float}
use Rattle.std.specs.Float.{Float, nan}
use Rattle.serde_json.specs.Data.{Num, unsigned, negative, float, Data, null, boolean, number, string, array, object, Items, no_items, item, Members, no_members, member}

-- a mark, a text, and a number
abbrev Part : Type 0
Part = ℕ × (List ℕ × Num)

abbrev NumParts : Type 0
NumParts = ℕ × (ℕ × (ℤ × Float))

abbrev to_num : Num → NumParts
to_num (unsigned n) = (0, (n, (pos 0, nan)))
to_num (negative z) = (1, (0, (z, nan)))
to_num (float x) = (2, (0, (pos 0, x)))

abbrev from_num : NumParts → Num
from_num p = if p.0 == 0 then unsigned p.1.0 else (if p.0 == 1 then negative p.1.1.0 else float p.1.1.1)

pub from_num-to_num : (n : Num) → from_num (to_num n) ≡ n
from_num-to_num (unsigned n) = refl
from_num-to_num (negative z) = refl
from_num-to_num (float x) = refl

abbrev num_code : Coded Num
num_code = code_by NumParts (coded× coded_ℕ (coded× coded_ℕ (coded× coded_ℤ coded_float))) to_num from_num from_num-to_num

abbrev mark : ℕ → Part
mark n = (n, ([], unsigned 0))

-- what stands for the data, in front of more
abbrev mutual
  data_parts : Data → List Part → List Part
  data_parts null ps = mark 0 ∷ ps
  data_parts (boolean true) ps = mark 1 ∷ ps
  data_parts (boolean false) ps = mark 2 ∷ ps
  data_parts (number n) ps = (3, ([], n)) ∷ ps
  data_parts (string s) ps = (4, (s, unsigned 0)) ∷ ps
  data_parts (array ds) ps = mark 5 ∷ items_parts ds ps
  data_parts (object ms) ps = mark 6 ∷ members_parts ms ps

  items_parts : Items → List Part → List Part
  items_parts no_items ps = mark 7 ∷ ps
  items_parts (item d ds) ps = mark 8 ∷ data_parts d (items_parts ds ps)

  members_parts : Members → List Part → List Part
  members_parts no_members ps = mark 9 ∷ ps
  members_parts (member k d ms) ps = (10, (k, unsigned 0)) ∷ data_parts d (members_parts ms ps)

-- what was read last comes first
record Stack : Type 0 where
  of_data : List Data
  of_items : List Items
  of_members : List Members

abbrev first_data : List Data → Data
first_data [] = null
first_data (d ∷ ds) = d

abbrev first_items : List Items → Items
first_items [] = no_items
first_items (d ∷ ds) = d

abbrev first_members : List Members → Members
first_members [] = no_members
first_members (d ∷ ds) = d

abbrev later : {A : Type 0} → List A → List A
later [] = []
later (x ∷ xs) = xs

abbrev add_data : Data → Stack → Stack
add_data d s = record { of_data = d ∷ s.of_data; of_items = s.of_items; of_members = s.of_members }

abbrev add_items : Items → Stack → Stack
add_items ds s = record { of_data = s.of_data; of_items = ds ∷ s.of_items; of_members = s.of_members }

abbrev add_members : Members → Stack → Stack
add_members ms s = record { of_data = s.of_data; of_items = s.of_items; of_members = ms ∷ s.of_members }

-- what comes first, taken together
abbrev take_array : Stack → Stack
take_array s = record {
  of_data = array (first_items s.of_items) ∷ s.of_data;
  of_items = later s.of_items;
  of_members = s.of_members;
}

abbrev take_object : Stack → Stack
take_object s = record {
  of_data = object (first_members s.of_members) ∷ s.of_data;
  of_items = s.of_items;
  of_members = later s.of_members;
}

abbrev take_item : Stack → Stack
take_item s = record {
  of_data = later s.of_data;
  of_items = item (first_data s.of_data) (first_items s.of_items) ∷ later s.of_items;
  of_members = s.of_members;
}

abbrev take_member : List ℕ → Stack → Stack
take_member k s = record {
  of_data = later s.of_data;
  of_items = s.of_items;
  of_members = member k (first_data s.of_data) (first_members s.of_members) ∷ later s.of_members;
}

abbrev step : Part → Stack → Stack
step p s =
    if p.0 == 0 then add_data null s else
    (if p.0 == 1 then add_data (boolean true) s else
    (if p.0 == 2 then add_data (boolean false) s else
    (if p.0 == 3 then add_data (number p.1.1) s else
    (if p.0 == 4 then add_data (string p.1.0) s else
    (if p.0 == 5 then take_array s else
    (if p.0 == 6 then take_object s else
    (if p.0 == 7 then add_items no_items s else
    (if p.0 == 8 then take_item s else
    (if p.0 == 9 then add_members no_members s else
    take_member p.1.0 s)))))))))

abbrev read_parts : List Part → Stack
read_parts [] = record { of_data = []; of_items = []; of_members = [] }
read_parts (p ∷ ps) = step p (read_parts ps)

mutual
  read-data : (d : Data) (ps : List Part) → read_parts (data_parts d ps) ≡ add_data d (read_parts ps)
  read-data null ps = refl
  read-data (boolean true) ps = refl
  read-data (boolean false) ps = refl
  read-data (number n) ps = refl
  read-data (string s) ps = refl
  read-data (array ds) ps = ap (step (mark 5)) (read-items ds ps)
  read-data (object ms) ps = ap (step (mark 6)) (read-members ms ps)

  read-items : (ds : Items) (ps : List Part) → read_parts (items_parts ds ps) ≡ add_items ds (read_parts ps)
  read-items no_items ps = refl
  read-items (item d ds) ps = ap (step (mark 8)) (read-data d (items_parts ds ps) ∙ ap (add_data d) (read-items ds ps))

  read-members : (ms : Members) (ps : List Part) → read_parts (members_parts ms ps) ≡ add_members ms (read_parts ps)
  read-members no_members ps = refl
  read-members (member k d ms) ps =
      ap (step (10, (k, unsigned 0))) (read-data d (members_parts ms ps) ∙ ap (add_data d) (read-members ms ps))

abbrev part_code : Coded Part
part_code = coded× coded_ℕ (coded× (coded_list coded_ℕ) num_code)

pub items_back : (ds : Items) → first_items (read_parts (items_parts ds [])).of_items ≡ ds
items_back ds = ap (λ s. first_items s.of_items) (read-items ds [])

pub members_back : (ms : Members) → first_members (read_parts (members_parts ms [])).of_members ≡ ms
members_back ms = ap (λ s. first_members s.of_members) (read-members ms [])

abbrev pub items_code : Coded Items
items_code =
    code_by (List Part) (coded_list part_code) (λ ds. items_parts ds []) (λ ps. first_items (read_parts ps).of_items) items_back

abbrev pub members_code : Coded Members
members_code =
    code_by (List Part) (coded_list part_code) (λ ms. members_parts ms [])
    (λ ps. first_members (read_parts ps).of_members) members_back
