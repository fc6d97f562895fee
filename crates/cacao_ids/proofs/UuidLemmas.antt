-- A text of 36 characters with no upper-case digit parses exactly where it has the form.
use Rattle.std.proofs.Common.{◌≡◌, ◌⊎◌, ℕ, ◌<◌, ◌==◌, ◌&&◌, Bool, true, false, List, [], ◌∷◌, length, get_or, arith, Option, Some, None, refl, sym, ◌∙◌, ap, inl, inr, if◌then◌else◌, zero, suc, lit<, ◌≢◌}
use Rattle.std.specs.Prelude.{slice_index, is_some}
use Rattle.std.specs.List.{list_all}
use Rattle.std.proofs.lemmas.Bool.{true≢false, cases_lt}
use Rattle.cacao_ids.specs.Uuids.{IsUuid, is_lower_hex, is_hyphen_at}
use Rattle.uuid.specs.Text.{parsed, parsed_simple, digits_of, has_hyphens, is_hex_digit, by_index, hyphen_place, digit_place, byte_of_digits}
use Rattle.uuid.proofs.TextLemmas.{by_index_length, by_index_at}

-- no letter from `A` to `F`
abbrev pub IsNotUpper : ℕ → Type 0
IsNotUpper c = (c < 65) ⊎ (70 < c)

pub both : (a b : Bool) → (a && b) ≡ true → (a ≡ true) × (b ≡ true)
both true b e = (refl, e)
both false b e = absurd (true≢false (sym e))

some_then : {X : Type 0} (b : Bool) (x : Option X) (u : X) → (if b then x else None) ≡ Some u → (b ≡ true) × (x ≡ Some u)
some_then true x u e = (refl, e)
some_then false x u e = absurd (true≢false (sym (ap is_some e)))

all_hold : (p : ℕ → Bool) (xs : List ℕ) → ((k : ℕ) → k < length xs → p (get_or xs k 0) ≡ true) → list_all p xs ≡ true
all_hold p [] holds = refl
all_hold p (x ∷ xs) holds = rw (holds 0 (omega arith), all_hold p xs (λ k h. holds (suc k) (omega arith))) refl

holds_at : (p : ℕ → Bool) (xs : List ℕ) (k : ℕ) → list_all p xs ≡ true → k < length xs → p (get_or xs k 0) ≡ true
holds_at p [] k e h = absurd (omega arith)
holds_at p (x ∷ xs) zero e h = (both (p x) (list_all p xs) e).0
holds_at p (x ∷ xs) (suc k) e h = holds_at p xs k (both (p x) (list_all p xs) e).1 (omega arith)

-- of the characters that are no upper-case digits, the hexadecimal digits are the lower ones
hex_is_lower : (c : ℕ) → IsNotUpper c → is_hex_digit c ≡ is_lower_hex c
hex_is_lower c h = grind arith

hex_from_lower : (c : ℕ) → is_lower_hex c ≡ true → is_hex_digit c ≡ true
hex_from_lower c h = grind arith

-- a digit's place is no hyphen's, and each place that is no hyphen's is a digit's
digit_here : (k : ℕ) → k < 32 → (is_hyphen_at (hyphen_place k) ≡ false) × (hyphen_place k < 36)
digit_here k h = grind arith

no_hyphen : (k : ℕ) → is_hyphen_at k ≡ false → (k ≢ 8) × (k ≢ 13) × (k ≢ 18) × (k ≢ 23)
no_hyphen k e = (λ h. absurd (true≢false (rw h at e)), λ h. absurd (true≢false (rw h at e)), λ h. absurd (true≢false (rw h at e)), λ h. absurd (true≢false (rw h at e)))

place_back_at : (k : ℕ) → k < 36 → k ≢ 8 → k ≢ 13 → k ≢ 18 → k ≢ 23 → (hyphen_place (digit_place k) ≡ k) × (digit_place k < 32)
place_back_at k h a b c d = elim (cases_lt k 8) [
  | inl p ↦ (grind arith, grind arith)
  | inr p ↦ elim (cases_lt k 13) [
    | inl q ↦ (grind arith, grind arith)
    | inr q ↦ elim (cases_lt k 18) [
      | inl r ↦ (grind arith, grind arith)
      | inr r ↦ elim (cases_lt k 23) [
        | inl t ↦ (grind arith, grind arith)
        | inr t ↦ (grind arith, grind arith)
      ]
    ]
  ]
]

place_back : (k : ℕ) → k < 36 → is_hyphen_at k ≡ false → (hyphen_place (digit_place k) ≡ k) × (digit_place k < 32)
place_back k h e = let n = no_hyphen k e in place_back_at k h n.0 n.1 n.2 n.3

stands : (b : Bool) (c : ℕ) → b ≡ false → (if b then c == 45 else is_lower_hex c) ≡ true → is_lower_hex c ≡ true
stands true c e h = absurd (true≢false e)
stands false c e h = h

pub parses_from : (s : List ℕ) → IsUuid s → (u : List ℕ) × (parsed s ≡ Some u)
parses_from s form =
    let size : length s ≡ 36 = form.size in
    let hyphens : has_hyphens s ≡ true = rw (form.characters 8 (lit< tt), form.characters 13 (lit< tt), form.characters 18 (lit< tt), form.characters 23 (lit< tt)) refl in
    let digits : length (digits_of s) ≡ 32 = by_index_length 32 (λ i. slice_index s (hyphen_place i)) in
    let each = all_hold is_hex_digit (digits_of s) (λ k h.
    let less : k < 32 = omega arith in
    let here = by_index_at 32 (λ i. slice_index s (hyphen_place i)) k 0 less in
    let place = digit_here k less in
    let may = form.characters (hyphen_place k) place.1 in
    rw here (hex_from_lower (slice_index s (hyphen_place k)) (stands (is_hyphen_at (hyphen_place k)) (slice_index s (hyphen_place k)) place.0 may))) in
    let simple : parsed_simple (digits_of s) ≡ Some (by_index 16 (byte_of_digits (digits_of s))) = rw (digits, each) refl in
    (by_index 16 (byte_of_digits (digits_of s)), rw size (rw hyphens simple))

hyphens_are : (s : List ℕ) → has_hyphens s ≡ true → (k : ℕ) → is_hyphen_at k ≡ true → (slice_index s k == 45) ≡ true
hyphens_are s h k e = grind arith

may_from : (b : Bool) (c : ℕ) → (b ≡ true → (c == 45) ≡ true) → (b ≡ false → is_lower_hex c ≡ true) → (if b then c == 45 else is_lower_hex c) ≡ true
may_from true c f g = f refl
may_from false c f g = g refl

pub form_from : (s u : List ℕ) → length s ≡ 36 → ((k : ℕ) → k < length s → IsNotUpper (slice_index s k)) → parsed s ≡ Some u → IsUuid s
form_from s u size low e =
    let inner : (if has_hyphens s then parsed_simple (digits_of s) else None) ≡ Some u = rw size at e in
    let first = some_then (has_hyphens s) (parsed_simple (digits_of s)) u inner in
    let second = some_then ((length (digits_of s) == 32) && list_all is_hex_digit (digits_of s)) (Some (by_index 16 (byte_of_digits (digits_of s)))) u first.1 in
    let hex = (both (length (digits_of s) == 32) (list_all is_hex_digit (digits_of s)) second.0).1 in
    let digits : length (digits_of s) ≡ 32 = by_index_length 32 (λ i. slice_index s (hyphen_place i)) in record {
      size = size;
      characters = λ k h. may_from (is_hyphen_at k) (slice_index s k) (hyphens_are s first.0 k) (λ no.
          let back = place_back k h no in
          let here = by_index_at 32 (λ i. slice_index s (hyphen_place i)) (digit_place k) 0 back.1 in
          let within : digit_place k < length (digits_of s) = omega (arith, digits, back) in
          let hex_at = holds_at is_hex_digit (digits_of s) (digit_place k) hex within in
          let hex_here : is_hex_digit (slice_index s k) ≡ true = rw (← back.0) (rw (← here) hex_at) in
          let small : k < length s = omega (arith, size) in
          sym (hex_is_lower (slice_index s k) (low k small)) ∙ hex_here);
    }
