-- Canonical text has as many colons outside strings as its data has members.
use Rattle.std.proofs.Common.{◌≡◌, ℕ, zero, suc, ◌+◌, ◌<◌, ◌≤◌, List, [], ◌∷◌, ◌++◌, Bool, true, false, ◌&&◌, ◌==◌, map, inl, inr, refl, sym, ap, ◌∙◌, append_assoc, append-nil, arith}
use Rattle.std.specs.Prelude.{flat_map, if◌then◌else◌}
use Rattle.std.proofs.lemmas.Bool.{and_parts, cases_eq, cases_lt, ne_eqb}
use Rattle.json.proofs.Printed.Strings.{escape_byte_plain}
use Rattle.serde_json.specs.Data.{Data, null, boolean, number, string, array, object, Items, no_items, item, Members, no_members, member}
use Rattle.cacao_json.specs.Counts.{Position, Outside, Inside, Escaped, next_position, colons_from, colons, members, members_of_items, members_of_pairs}
use Rattle.cacao_json.specs.Profile.{IsFormed, AreFormed, AreFormedMembers}
use Rattle.cacao_text.specs.Canon.{escaped, string_text, in_order, after_commas, joined, member_text, canon, item_texts, named_texts}
use Rattle.cacao_text.proofs.Sorting.{Each, Each-in_order, total, total-in_order}
use Rattle.cacao_text.proofs.Escapes.{escaped-escape_byte}
use Rattle.cacao_text.proofs.Digits.{IsMark, whole_text-marks}

-- ---- strings

-- from the place the bytes stay in the string, and end between its bytes
abbrev stays : Position → List ℕ → Bool
stays Outside bs = false
stays Inside [] = true
stays Inside (b ∷ bs) = stays (next_position Inside b) bs
stays Escaped [] = false
stays Escaped (b ∷ bs) = stays Inside bs

colons-stays : (p : Position) (bs r : List ℕ) → stays p bs ≡ true → colons_from p (bs ++ r) ≡ colons_from Inside r
colons-stays Outside bs r h = absurd (cc)
colons-stays Inside [] r h = refl
colons-stays Inside (b ∷ bs) r h = omega (arith, colons-stays (next_position Inside b) bs r h)
colons-stays Escaped [] r h = absurd (cc)
colons-stays Escaped (b ∷ bs) r h = omega (arith, colons-stays Inside bs r h)

abbrev all_below : (ℕ → Bool) → ℕ → Bool
all_below test zero = true
all_below test (suc n) = test n && all_below test n

all_below_at : (test : ℕ → Bool) (n : ℕ) → all_below test n ≡ true → (x : ℕ) → x < n → test x ≡ true
all_below_at test zero e x h = absurd (omega arith)
all_below_at test (suc n) e x h =
    let p = and_parts _ _ e in
    elim (cases_eq x n) [ inl same ↦ ap test same ∙ p.0 | inr differs ↦ all_below_at test n p.1 x (omega arith) ]

low_stays : all_below (λ x. stays Inside (escaped x)) 93 ≡ true
unfolding escaped
low_stays = refl

high_next : (x : ℕ) → 93 ≤ x → next_position Inside x ≡ Inside
high_next x h =
    ap (λ b. if b then Outside else (if x == 92 then Escaped else Inside)) (ne_eqb x 34 (λ e. omega arith)) ∙ ap (λ b. if b then Escaped else Inside) (ne_eqb x 92 (λ e. omega arith))

stays_byte : (x : ℕ) → stays Inside (escaped x) ≡ true
stays_byte x = elim (cases_lt x 93) [
  | inl low ↦ all_below_at (λ y. stays Inside (escaped y)) 93 low_stays x low
  | inr high ↦ ap (stays Inside) (escaped-escape_byte x ∙ escape_byte_plain x (λ e. omega arith) (λ e. omega arith) (omega arith)) ∙ ap (λ p. stays p []) (high_next x high)
]

inside_text : (s r : List ℕ) → colons_from Inside (flat_map escaped s ++ 34 ∷ r) ≡ colons_from Outside r
inside_text [] r = omega arith
inside_text (x ∷ s) r =
    ap (colons_from Inside) (append_assoc (escaped x) (flat_map escaped s) (34 ∷ r)) ∙ colons-stays Inside (escaped x) (flat_map escaped s ++ 34 ∷ r) (stays_byte x) ∙ inside_text s r

-- ---- texts that begin and end outside strings

-- the text has n colons outside strings, whatever comes after it
pub record HasColons (t : List ℕ) (n : ℕ) : Type 0 where
  pub count : (r : List ℕ) → colons_from Outside (t ++ r) ≡ n + colons_from Outside r

none : HasColons [] 0
none = record { count = λ r. omega arith }

both : (t u : List ℕ) (m n : ℕ) → HasColons t m → HasColons u n → HasColons (t ++ u) (m + n)
both t u m n v w = record { count = λ r. ap (colons_from Outside) (append_assoc t u r) ∙ v.count (u ++ r) ∙ omega (arith, w.count r) }

-- a byte that is no quotation mark and no colon
mark : (x : ℕ) (t : List ℕ) (n : ℕ) → (x == 34) ≡ false → (x == 58) ≡ false → HasColons t n → HasColons (x ∷ t) n
mark x t n q k w = record {
  count = λ r. ap (λ b. (if b then 1 else 0) + colons_from (if x == 34 then Inside else Outside) (t ++ r)) k ∙ ap (λ b. 0 + colons_from (if b then Inside else Outside) (t ++ r)) q ∙ omega (arith, w.count r);
}

colon : (t : List ℕ) (n : ℕ) → HasColons t n → HasColons (58 ∷ t) (1 + n)
colon t n w = record { count = λ r. omega (arith, w.count r) }

quoted_text : (s : List ℕ) → HasColons (string_text s) 0
quoted_text s = record { count = λ r. omega (arith, ap (colons_from Inside) (append_assoc (flat_map escaped s) (34 ∷ []) r), inside_text s r) }

marks : (ds : List ℕ) → Each IsMark ds → HasColons ds 0
marks [] w = none
marks (d ∷ ds) w = mark d ds 0 (ne_eqb d 34 (λ e. omega (arith, w.0.low))) (ne_eqb d 58 (λ e. omega (arith, w.0.high))) (marks ds w.1)

same_count : (t : List ℕ) (m n : ℕ) → m ≡ n → HasColons t m → HasColons t n
same_count t m n e w = record { count = λ r. omega (arith, w.count r, e) }

-- ---- members in any order

abbrev Counted : List ℕ × List ℕ → Type 0
Counted m = HasColons m.1 (colons m.1)

abbrev member_colons : List ℕ × List ℕ → ℕ
member_colons m = 1 + colons m.1

one_member : (m : List ℕ × List ℕ) → Counted m → HasColons (member_text m) (member_colons m)
one_member m w = same_count (member_text m) (0 + (1 + colons m.1)) (1 + colons m.1) (omega arith) (both (string_text m.0) (58 ∷ m.1) 0 (1 + colons m.1) (quoted_text m.0) (colon m.1 (colons m.1) w))

after_members : (ms : List (List ℕ × List ℕ)) → Each Counted ms → HasColons (after_commas (map member_text ms)) (total member_colons ms)
after_members [] w = none
after_members (m ∷ ms) w = mark 44 _ _ refl refl (both (member_text m) (after_commas (map member_text ms)) (member_colons m) (total member_colons ms) (one_member m w.0) (after_members ms w.1))

all_members : (ms : List (List ℕ × List ℕ)) → Each Counted ms → HasColons (joined (map member_text ms)) (total member_colons ms)
all_members [] w = none
all_members (m ∷ ms) w = both (member_text m) (after_commas (map member_text ms)) (member_colons m) (total member_colons ms) (one_member m w.0) (after_members ms w.1)

alone : (t : List ℕ) (n : ℕ) → HasColons t n → colons t ≡ n
alone t n w = ap (colons_from Outside) (sym (append-nil t)) ∙ omega (arith, w.count [])

mutual
  canon_colons : (d : Data) → IsFormed d → HasColons (canon d) (members d)
  canon_colons null h = mark 110 _ 0 refl refl (mark 117 _ 0 refl refl (mark 108 _ 0 refl refl (mark 108 _ 0 refl refl none)))
  canon_colons (boolean true) h = mark 116 _ 0 refl refl (mark 114 _ 0 refl refl (mark 117 _ 0 refl refl (mark 101 _ 0 refl refl none)))
  canon_colons (boolean false) h = mark 102 _ 0 refl refl (mark 97 _ 0 refl refl (mark 108 _ 0 refl refl (mark 115 _ 0 refl refl (mark 101 _ 0 refl refl none))))
  canon_colons (number n) h = marks (canon (number n)) (whole_text-marks n h)
  canon_colons (string s) h = quoted_text s
  canon_colons (array ds) h =
      mark 91 _ _ refl refl (same_count _ (members_of_items ds + 0) (members_of_items ds) (omega arith) (both (joined (item_texts ds)) (93 ∷ []) (members_of_items ds) 0 (all_items ds h) (mark 93 [] 0 refl refl none)))
  canon_colons (object ms) h =
      let texts = in_order (λ m. m.0) (named_texts ms) in
      let sum : total member_colons texts + 0 ≡ members_of_pairs ms = omega (arith, total-in_order member_colons (λ m. m.0) (named_texts ms), named_total ms h) in
      mark 123 _ _ refl refl (same_count _ (total member_colons texts + 0) (members_of_pairs ms) sum
      (both (joined (map member_text texts)) (125 ∷ []) (total member_colons texts) 0 (all_members texts (Each-in_order Counted (λ m. m.0) (named_texts ms) (named_each ms h))) (mark 125 [] 0 refl refl none)))

  after_items : (ds : Items) → AreFormed ds → HasColons (after_commas (item_texts ds)) (members_of_items ds)
  after_items no_items h = none
  after_items (item d ds) h = mark 44 _ _ refl refl (both (canon d) (after_commas (item_texts ds)) (members d) (members_of_items ds) (canon_colons d h.0) (after_items ds h.1))

  all_items : (ds : Items) → AreFormed ds → HasColons (joined (item_texts ds)) (members_of_items ds)
  all_items no_items h = none
  all_items (item d ds) h = both (canon d) (after_commas (item_texts ds)) (members d) (members_of_items ds) (canon_colons d h.0) (after_items ds h.1)

  named_each : (ms : Members) → AreFormedMembers ms → Each Counted (named_texts ms)
  named_each no_members h = tt
  named_each (member k d ms) h =
      let w = canon_colons d h.1 in
      (same_count (canon d) (members d) (colons (canon d)) (sym (alone (canon d) (members d) w)) w, named_each ms h.3)

  named_total : (ms : Members) → AreFormedMembers ms → total member_colons (named_texts ms) ≡ members_of_pairs ms
  named_total no_members h = refl
  named_total (member k d ms) h = omega (arith, alone (canon d) (members d) (canon_colons d h.1), named_total ms h.3)

pub colons-canon : (d : Data) → IsFormed d → colons (canon d) ≡ members d
colons-canon d h = alone (canon d) (members d) (canon_colons d h)
