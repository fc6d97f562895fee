-- Lines, cut at bytes that do not stand in their words.
use Rattle.std.proofs.Common.{◌≡◌, ◌∙◌, ℕ, zero, suc, ◌+◌, ◌<◌, ◌==◌, ◌/◌, ◌%◌, ◌&&◌, not, Bool, true, false, cond, List, [], ◌∷◌, ◌++◌, length, take, drop, refl, ap, arith}
use Rattle.std.specs.Prelude.{decimal}
use Rattle.std.specs.Fmt.{digit_glyph, digits, digits_onto}
use Rattle.std.specs.List.{list_all, position_or_len}
use Rattle.cacao_view_graph.specs.Cutting.{behind, first_line}

-- a word has not this byte
abbrev pub is_free : ℕ → List ℕ → Bool
is_free byte word = list_all (λ b. not (b == byte)) word

abbrev pub Free : ℕ → List ℕ → Type 0
Free byte word = is_free byte word ≡ true

both : (a b : Bool) → a && b ≡ true → (a ≡ true) × (b ≡ true)
both true true e = (refl, refl)
both true false e = absurd (cc)
both false b e = absurd (cc)

one_more : (a b : Bool) → a ≡ true → b ≡ true → a && b ≡ true
one_more true true e f = refl
one_more true false e f = absurd (cc)
one_more false b e f = absurd (cc)

same_byte : (b : ℕ) → not (b == b) ≡ false
same_byte b = grind arith

pub free_append : (byte : ℕ) (xs ys : List ℕ) → Free byte xs → Free byte ys → Free byte (xs ++ ys)
free_append byte [] ys e f = f
free_append byte (x ∷ xs) ys e f =
    let parts = both (not (x == byte)) (is_free byte xs) e in
    one_more (not (x == byte)) (is_free byte (xs ++ ys)) parts.0 (free_append byte xs ys parts.1 f)

-- ---- numbers

digit_free : (byte d : ℕ) → byte < 48 → d < 10 → not (digit_glyph false d == byte) ≡ true
digit_free byte d low lt = grind (arith, digit_glyph)

by_either : (byte : ℕ) (b : Bool) (xs ys : List ℕ) → Free byte xs → Free byte ys → Free byte (cond b xs ys)
by_either byte true xs ys e f = e
by_either byte false xs ys e f = f

digits_free : (k byte n : ℕ) (acc : List ℕ) → byte < 48 → Free byte acc → Free byte (digits_onto k 10 false n acc)
digits_free zero byte n acc low free = free
digits_free (suc k) byte n acc low free =
    let glyph : not (digit_glyph false (n % 10) == byte) ≡ true = digit_free byte (n % 10) low (omega arith) in
    let more : Free byte (digit_glyph false (n % 10) ∷ acc) = one_more (not (digit_glyph false (n % 10) == byte)) (is_free byte acc) glyph free in
    by_either byte (n / 10 == 0) _ _ more (digits_free k byte (n / 10) (digit_glyph false (n % 10) ∷ acc) low more)

pub free_decimal : (byte n : ℕ) → byte < 48 → Free byte (decimal n)
unfolding digits
free_decimal byte n low = digits_free 64 byte n [] low refl

-- ---- cuts

prefix_of : (byte : ℕ) (word rest : List ℕ) → Free byte word → position_or_len (λ b. b == byte) (word ++ byte ∷ rest) ≡ length word
prefix_of byte [] rest e = ap (λ t. cond t (1 + position_or_len (λ b. b == byte) rest) 0) (same_byte byte)
prefix_of byte (w ∷ word) rest e =
    let parts = both (not (w == byte)) (is_free byte word) e in
    ap (λ t. cond t (1 + position_or_len (λ b. b == byte) (word ++ byte ∷ rest)) 0) parts.0 ∙ ap (λ n. 1 + n) (prefix_of byte word rest parts.1) ∙ omega arith

drop_word : (x : ℕ) (word rest : List ℕ) → drop (length word + 1) (word ++ x ∷ rest) ≡ rest
drop_word x [] rest = refl
drop_word x (w ∷ word) rest = ap (λ n. drop n (w ∷ (word ++ x ∷ rest))) (let e : suc (length word) + 1 ≡ suc (length word + 1) = omega arith in e) ∙ drop_word x word rest

take_word : (x : ℕ) (word rest : List ℕ) → take (length word + 1) (word ++ x ∷ rest) ≡ word ++ x ∷ []
take_word x [] rest = refl
take_word x (w ∷ word) rest = ap (λ n. take n (w ∷ (word ++ x ∷ rest))) (let e : suc (length word) + 1 ≡ suc (length word + 1) = omega arith in e) ∙ ap (λ l. w ∷ l) (take_word x word rest)

pub behind_is : (byte : ℕ) (word rest : List ℕ) → Free byte word → behind byte (word ++ byte ∷ rest) ≡ rest
behind_is byte word rest e = ap (λ n. drop (n + 1) (word ++ byte ∷ rest)) (prefix_of byte word rest e) ∙ drop_word byte word rest

pub first_line_is : (word rest : List ℕ) → Free 10 word → first_line (word ++ 10 ∷ rest) ≡ word ++ 10 ∷ []
first_line_is word rest e = ap (λ n. take (n + 1) (word ++ 10 ∷ rest)) (prefix_of 10 word rest e) ∙ take_word 10 word rest
