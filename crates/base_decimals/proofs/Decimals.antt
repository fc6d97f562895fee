-- A text that is a number in decimal, and what `parse` gives of it.
use Rattle.std.proofs.Common.{◌≡◌, ◌≢◌, ◌∙◌, ◌<◌, ◌≤◌, ◌^◌, ℕ, true, List, [], ◌∷◌, length, get_or, Some, None, Result, Ok, Err, leb, refl, sym, ap, subst, arith, inl, inr, lit<, le-leb, leb-true}
use Rattle.std.proofs.lemmas.Bool.{cases_lt, lt-leb, and_parts}
use Rattle.std.proofs.lemmas.Option.{cond_some}
use Rattle.std.proofs.lemmas.Slice.Eq.{bytes_eq-Decides}
use Rattle.std.specs.Bool.{then_some}
use Rattle.std.specs.Str.{bytes_eq, IsUtf8}
use Rattle.std.proofs.lemmas.Str.{IsUtf8-from_ascii}
use Rattle.std.specs.Fmt.{decimal}
use Rattle.std.specs.Str.Parse.{ParsesUnsigned, AllDigits, digits_value}
use Rattle.std.proofs.lemmas.Str.Parse.{IsNumeralModel, numerals_by_value, tells_digits, parse_plain, digit_at}
use Rattle.std.proofs.lemmas.Fmt.{decimal-digits_value, digits_value-decimal, parse-decimal, first_decimal, decimal_nonempty, decimal_digit, digits_decimal, IsAscii-decimal}
use Rattle.base_decimals.specs.Numbers.{number}
use Rattle.base_decimals.specs.Begins.{MayBegin}
use Rattle.base_decimals.proofs.Choices.{none_if}

pub own : IsNumeralModel (AllDigits 10) (digits_value 10)
own = numerals_by_value _ tells_digits

pub number_some : (most n : ℕ) (text : List ℕ) → n ≤ most → most < 2 ^ 64 → text ≡ decimal n → number most text ≡ Some n
unfolding number
number_some most n text fits small is =
    let value : digits_value 10 text ≡ n = ap (digits_value 10) is ∙ digits_value-decimal own n (omega arith) in
    let same : bytes_eq text (decimal n) ≡ true = (bytes_eq-Decides text (decimal n)).1 is in
    rw (value, same, le-leb n most fits) refl

pub number_sound : (most n : ℕ) (text : List ℕ) → number most text ≡ Some n → (text ≡ decimal n) × (n ≤ most)
unfolding number
number_sound most n text e =
    let (test, value) = cond_some _ _ _ e in
    let both = and_parts _ _ test in
    let is : text ≡ decimal (digits_value 10 text) = (bytes_eq-Decides _ _).0 both.0 in
    (is ∙ ap decimal value, omega (arith, value, leb-true _ _ both.1))

pub number_past : (most n : ℕ) (text : List ℕ) → most < n → n < 2 ^ 64 → text ≡ decimal n → number most text ≡ None
number_past most n text past small is = none_if _ λ m e.
    let sound = number_sound most m text e in
    let value : m ≡ n = sym (digits_value-decimal own m (omega arith)) ∙ ap (digits_value 10) (sym sound.0 ∙ is) ∙ digits_value-decimal own n small in
    omega arith

-- the number where it is not too great
pub number_kept : (most n : ℕ) (text : List ℕ) → most < 2 ^ 64 → n < 2 ^ 64 → text ≡ decimal n → then_some (leb n most) n ≡ number most text
number_kept most n text limit small is = elim (cases_lt most n) [
  | inl past ↦ rw (lt-leb n most past) (sym (number_past most n text past small is))
  | inr fits ↦ rw (le-leb n most fits) (sym (number_some most n text fits limit is))
]

pub number_none : (most : ℕ) (text : List ℕ) → ((n : ℕ) → n ≤ most → text ≢ decimal n) → number most text ≡ None
number_none most text none = none_if _ (λ n e. let sound = number_sound most n text e in none n sound.1 sound.0)

-- what `parse` reads of a text that may begin a number
pub parse_ok : {E : Type 0} (text : List ℕ) (n : ℕ) (r : Result ℕ E) → r ≡ Ok n → ParsesUnsigned 64 10 text r → MayBegin text → (text ≡ decimal n) × (n < 2 ^ 64)
parse_ok {E} text n r is parsed begins =
    let ok : ParsesUnsigned {E = E} 64 10 text (Ok n) = subst (ParsesUnsigned {E = E} 64 10 text) is parsed in
    let got = parse_plain own {E = E} 64 text (Ok n) ok begins.1 in
    (sym (decimal-digits_value own text got.0.0 begins.0 begins.2 got.0.2) ∙ ap decimal (sym got.1), omega (arith, got.0.2, got.1))

pub parse_err : {E : Type 0} (text : List ℕ) (e : E) (r : Result ℕ E) → r ≡ Err e → ParsesUnsigned 64 10 text r → (n : ℕ) → n < 2 ^ 64 → text ≢ decimal n
parse_err {E} text e r is parsed n small written = let bad = parse-decimal 64 n text r small small written parsed in cc

-- a number's text begins with no plus, and with no zero before other digits
pub decimal_begins : (n : ℕ) (text : List ℕ) → n < 2 ^ 64 → text ≡ decimal n → MayBegin text
decimal_begins n text small is = elim (cases_lt 0 n) [
  | inl some ↦
      let first : 48 < get_or text 0 0 = rw is (first_decimal n some small) in
      let digit = digit_at (decimal n) 0 (digits_decimal own n small) (decimal_nonempty n small) in
      let long : 0 < length text = rw is (decimal_nonempty n small) in
      let below : get_or text 0 0 ≤ 57 = rw is digit.1 in
      (long, λ e. absurd (omega arith), λ e. absurd (omega arith))
  | inr none ↦
      let zero_is : n ≡ 0 = omega arith in
      let one : text ≡ 48 ∷ [] = is ∙ ap decimal zero_is ∙ decimal_digit 0 (lit< tt) in
      (rw one (lit< tt), λ e. let bad : 48 ≡ 43 = sym (ap (λ l. get_or l 0 0) one) ∙ e in absurd (omega arith), λ e. rw one refl)
]

-- what is no text is no number
pub no_text : (digits : List ℕ) → ¬ (IsUtf8 digits) → (n : ℕ) → n < 2 ^ 64 → digits ≢ decimal n
no_text digits bad n small is = bad (subst IsUtf8 (sym is) (IsUtf8-from_ascii (decimal n) (IsAscii-decimal n small)))
