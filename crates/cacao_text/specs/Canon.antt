-- Promise: The canonical text of a tree (RFC 8785), as bytes in UTF-8.
use Rattle.std.specs.Prelude.{ℕ, suc, ◌+◌, ◌/◌, ◌%◌, ◌==◌, nat_lt, pos, negsuc, List, [], ◌∷◌, ◌++◌, Bool, true, false, map, fold, flat_map, decimal, codes, if◌then◌else◌}
use Rattle.std.specs.Ordering.{nat_cmp, is_lt}
use Rattle.std.specs.Cmp.Lexicographic.{slice_cmp}
use Rattle.std.specs.Char.Escape.{encode_utf16}
use Rattle.std.specs.Str.{chars}
use Rattle.serde_json.specs.Data.{Num, unsigned, negative, float, Data, null, boolean, number, string, array, object, Items, no_items, item, Members, no_members, member}
use Rattle.cacao_json.specs.Tree.{without}

-- ---- numbers and strings

abbrev pub whole_text : Num → List ℕ
whole_text (unsigned n) = decimal n
whole_text (negative (pos n)) = decimal n
whole_text (negative (negsuc n)) = 45 ∷ decimal (suc n)
whole_text (float x) = []

-- in lower case
abbrev pub hex_digit : ℕ → ℕ
hex_digit n = if nat_lt n 10 then 48 + n else 87 + n

-- What stands in a string for a byte of its text: `\"`, `\\`, `\b`, `\t`, `\n`, `\f`, `\r`; `\u00` and two hexadecimal
-- digits for another byte below 32; and any other byte for itself.
unfoldable pub escaped : ℕ → List ℕ
escaped b =
    if b == 34 then 92 ∷ 34 ∷ [] else
    (if b == 92 then 92 ∷ 92 ∷ [] else
    (if b == 8 then 92 ∷ 98 ∷ [] else
    (if b == 9 then 92 ∷ 116 ∷ [] else
    (if b == 10 then 92 ∷ 110 ∷ [] else
    (if b == 12 then 92 ∷ 102 ∷ [] else
    (if b == 13 then 92 ∷ 114 ∷ [] else
    (if nat_lt b 32 then 92 ∷ 117 ∷ 48 ∷ 48 ∷ hex_digit (b / 16) ∷ hex_digit (b % 16) ∷ [] else b ∷ [])))))))

abbrev pub string_text : List ℕ → List ℕ
string_text s = 34 ∷ (flat_map escaped s ++ 34 ∷ [])

-- ---- the order of members

-- the UTF-16 units of a text in UTF-8
abbrev pub units : List ℕ → List ℕ
units text = flat_map encode_utf16 (chars text)

-- the units of k are less than those of l: number by number, a prefix first
abbrev pub comes_before : List ℕ → List ℕ → Bool
comes_before k l = is_lt (slice_cmp nat_cmp (units k) (units l))

-- m goes before the first whose name it comes before
abbrev pub insert_named : {A : Type 0} → (A → List ℕ) → A → List A → List A
insert_named name m [] = m ∷ []
insert_named name m (n ∷ ns) = if comes_before (name m) (name n) then m ∷ n ∷ ns else n ∷ insert_named name m ns

-- the members sorted by their names, placed one after another
abbrev pub in_order : {A : Type 0} → (A → List ℕ) → List A → List A
in_order name ms = fold (λ sorted m. insert_named name m sorted) [] ms

-- ---- texts

-- each text after a comma
abbrev pub after_commas : List (List ℕ) → List ℕ
after_commas [] = []
after_commas (t ∷ ts) = 44 ∷ (t ++ after_commas ts)

-- the texts, with commas between them
abbrev pub joined : List (List ℕ) → List ℕ
joined [] = []
joined (t ∷ ts) = t ++ after_commas ts

-- a member, by its name and the text of its value
abbrev pub member_text : List ℕ × List ℕ → List ℕ
member_text m = string_text m.0 ++ 58 ∷ m.1

abbrev mutual
  pub canon : Data → List ℕ
  canon null = codes "null"
  canon (boolean true) = codes "true"
  canon (boolean false) = codes "false"
  canon (number n) = whole_text n
  canon (string s) = string_text s
  canon (array ds) = 91 ∷ (joined (item_texts ds) ++ 93 ∷ [])
  canon (object ms) = 123 ∷ (joined (map member_text (in_order (λ m. m.0) (named_texts ms))) ++ 125 ∷ [])

  pub item_texts : Items → List (List ℕ)
  item_texts no_items = []
  item_texts (item d ds) = canon d ∷ item_texts ds

  -- each member's name, and the text of its value
  pub named_texts : Members → List (List ℕ × List ℕ)
  named_texts no_members = []
  named_texts (member k d ms) = (k, canon d) ∷ named_texts ms

-- a playbook without its signatures: the members of the top object but `signatures`
abbrev pub unsigned_of : Data → Data
unsigned_of null = null
unsigned_of (boolean b) = boolean b
unsigned_of (number n) = number n
unsigned_of (string s) = string s
unsigned_of (array ds) = array ds
unsigned_of (object ms) = object (without (codes "signatures") ms)

abbrev pub book_text : Data → List ℕ
book_text d = canon (unsigned_of d)
