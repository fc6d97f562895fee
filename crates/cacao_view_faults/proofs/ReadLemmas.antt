-- UTF-8 as a test and as a fact.
use Rattle.std.proofs.lemmas.Str.{IsUtf8-from_is_utf8, is_utf8-from_IsUtf8}
use Rattle.std.proofs.Common.{◌≡◌, ◌∙◌, sym, ap, ℕ, ◌==◌, ◌&&◌, List, Bool, true, false, not, refl}
use Rattle.std.specs.Str.{is_utf8, IsUtf8}
use Rattle.std.specs.Str.Lossy.{utf8_valid_len}
use Rattle.cacao_view_faults.specs.Kinds.{has_no_character}

false_of_not_true : (b : Bool) → (b ≡ true → ⊥) → b ≡ false
false_of_not_true true h = absurd (h refl)
false_of_not_true false h = refl

pub is_utf8_false : (bs : List ℕ) → (IsUtf8 bs → ⊥) → is_utf8 bs ≡ false
is_utf8_false bs h = false_of_not_true (is_utf8 bs) (λ t. h (IsUtf8-from_is_utf8 bs t))

pub ruleset utf8_tests = (is_utf8_false, is_utf8-from_IsUtf8)

pub no_character_ok : (bs : List ℕ) → IsUtf8 bs → false ≡ has_no_character bs
no_character_ok bs u = sym (ap (λ (b : Bool). not b && (utf8_valid_len bs == 0)) (is_utf8-from_IsUtf8 bs u))

pub no_character_err : (bs : List ℕ) (len : ℕ) → (IsUtf8 bs → ⊥) → len ≡ utf8_valid_len bs → (len == 0) ≡ has_no_character bs
no_character_err bs len h e = ap (λ (k : ℕ). k == 0) e ∙ sym (ap (λ (b : Bool). not b && (utf8_valid_len bs == 0)) (is_utf8_false bs h))
