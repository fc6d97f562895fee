-- The text of an IPv6 address, as std's grammar has it and as this crate's has.
use Rattle.std.proofs.Common.{◌≡◌, ◌≤◌, ℕ, zero, suc, true, List, [], ◌∷◌, Some, refl, ap, arith, lt-ltb, ltb-true, le-leb, leb-true}
use Rattle.std.proofs.lemmas.Bool.{and_from, and_parts}
use Rattle.std.proofs.lemmas.Option.{cond_some}
use Rattle.std.specs.List.{list_all}
use Rattle.std.specs.Char.{digit_value, is_digit}
use Rattle.std.specs.Str.Parse.{AllDigits}
use Rattle.std.specs.Net.Grammar.{IsGroup}
use Rattle.oc2_nets.specs.Ipv6.{is_group, group}
use Rattle.oc2_nets.proofs.TextParts.{Lacks}

-- ---- one group

all_digits : (text : List ℕ) → list_all (λ c. is_digit c 16) text ≡ true → AllDigits 16 text
all_digits [] e = tt
all_digits (c ∷ text) e = let both = and_parts _ _ e in (ltb-true _ _ both.0, all_digits text both.1)

digits_all : (text : List ℕ) → AllDigits 16 text → list_all (λ c. is_digit c 16) text ≡ true
digits_all [] h = refl
digits_all (c ∷ text) h = and_from _ _ (lt-ltb _ _ h.0) (digits_all text h.1)

pub group_sound : (text : List ℕ) (s : ℕ) → group text ≡ Some s → IsGroup text s
group_sound text s e =
    let kept = cond_some _ _ _ e in
    let tests = and_parts _ _ kept.0 in
    let lengths = and_parts _ _ tests.1 in
    (((ltb-true _ _ lengths.0, all_digits text tests.0), kept.1), leb-true _ _ lengths.1)

pub group_complete : (text : List ℕ) (s : ℕ) → IsGroup text s → group text ≡ Some s
group_complete text s h =
    let test : is_group text ≡ true = and_from _ _ (digits_all text h.0.0.1) (and_from _ _ (lt-ltb _ _ h.0.0.0) (le-leb _ _ h.1)) in
    rw (test, h.0.1) refl

-- a byte that is no hexadecimal digit
pub hex_lacks : (c : ℕ) (text : List ℕ) → 16 ≤ digit_value c → AllDigits 16 text → Lacks c text
hex_lacks c [] high all i h e = absurd (omega arith)
hex_lacks c (x ∷ text) high all zero h e = let same : digit_value x ≡ digit_value c = ap digit_value e in absurd (omega (arith, all.0))
hex_lacks c (x ∷ text) high all (suc i) h e = hex_lacks c text high all.1 i (omega arith) e

pub no_colon : (text : List ℕ) → AllDigits 16 text → Lacks 58 text
no_colon text all = hex_lacks 58 text (omega arith) all
