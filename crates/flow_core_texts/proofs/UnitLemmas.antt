-- A name of ASCII has the units of no other name.
use Rattle.std.proofs.Common.{◌≡◌, ℕ, zero, suc, ◌+◌, ◌-◌, ◌/◌, ◌%◌, ◌<◌, Bool, true, false, cond, List, [], ◌∷◌, ◌++◌, IsUtf8, refl, sym, ap, ◌∙◌, arith}
use Rattle.std.specs.Prelude.{flat_map, nat_lt, ◌&&◌}
use Rattle.std.specs.List.{list_all}
use Rattle.std.specs.Char.Escape.{encode_utf16}
use Rattle.std.specs.Str.{IsAscii, chars}
use Rattle.std.proofs.lemmas.Bool.{lt-ltb, ltb-true}
use Rattle.std.proofs.lemmas.Str.{chars-IsAscii, encodes-chars, encodes-IsAscii}
use lib.Utf8.{encodes}
use Rattle.cacao_text.specs.Canon.{units}

both : (a b : Bool) → a && b ≡ true → (a ≡ true) × (b ≡ true)
both true true e = (refl, refl)
both true false e = absurd (cc)
both false b e = absurd (cc)

pub ascii_of : (text : List ℕ) → list_all (λ c. nat_lt c 128) text ≡ true → IsAscii text
ascii_of [] e i = omega arith
ascii_of (c ∷ text) e zero = ltb-true c 128 (both _ _ e).0
ascii_of (c ∷ text) e (suc i) = ascii_of text (both _ _ e).1 i

each_alone : (k : List ℕ) → IsAscii k → flat_map encode_utf16 k ≡ k
each_alone [] h = refl
each_alone (x ∷ k) h =
    let narrow : x < 65536 = omega (arith, h 0) in
    ap (λ b. cond b (x ∷ []) ((0xD800 + (x - 0x10000) / 0x400) ∷ (0xDC00 + (x - 0x10000) % 0x400) ∷ []) ++ flat_map encode_utf16 k) (lt-ltb x 65536 narrow)
    ∙ ap (λ l. x ∷ l) (each_alone k (λ i. h (suc i)))

units_alone : (k : List ℕ) → IsAscii k → units k ≡ k
units_alone k h = ap (flat_map encode_utf16) (chars-IsAscii k h) ∙ each_alone k h

heads : (x y : ℕ) (xs ys : List ℕ) → x ∷ xs ≡ y ∷ ys → (x ≡ y) × (xs ≡ ys)
heads x y xs ys e = (cc, cc)

-- characters whose units are of ASCII are those units
same_by : (b : Bool) (c : ℕ) (cs : List ℕ) → nat_lt c 0x1_0000 ≡ b → ((k : List ℕ) → IsAscii k → flat_map encode_utf16 cs ≡ k → cs ≡ k) → (k : List ℕ) → IsAscii k
    → cond b (c ∷ []) ((0xD800 + (c - 0x1_0000) / 0x400) ∷ (0xDC00 + (c - 0x1_0000) % 0x400) ∷ []) ++ flat_map encode_utf16 cs ≡ k → c ∷ cs ≡ k
same_by true c cs w ih [] h e = absurd (cc)
same_by true c cs w ih (x ∷ k) h e =
    let f = heads c x (flat_map encode_utf16 cs) k e in
    ap (λ l. l ∷ cs) f.0 ∙ ap (λ l. x ∷ l) (ih k (λ i. h (suc i)) f.1)
same_by false c cs w ih [] h e = absurd (cc)
same_by false c cs w ih (x ∷ k) h e =
    let f = heads (0xD800 + (c - 0x1_0000) / 0x400) x ((0xDC00 + (c - 0x1_0000) % 0x400) ∷ flat_map encode_utf16 cs) k e in
    absurd (omega (arith, f.0, h 0))

same_chars : (cs k : List ℕ) → IsAscii k → flat_map encode_utf16 cs ≡ k → cs ≡ k
same_chars [] k h e = e
same_chars (c ∷ cs) k h e = same_by (nat_lt c 0x1_0000) c cs refl (same_chars cs) k h e

-- a name in UTF-8 with the units of a name of ASCII is that name
pub told_apart : (k l : List ℕ) → IsAscii k → IsUtf8 l → units k ≡ units l → k ≡ l
told_apart k l h u e =
    let same : chars l ≡ k = same_chars (chars l) k h (sym e ∙ units_alone k h) in
    sym (encodes-IsAscii k h) ∙ ap encodes (sym same) ∙ encodes-chars l u
