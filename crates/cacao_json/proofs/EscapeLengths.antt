-- What stands in a string for its content is no longer than what stood in the text.
use Rattle.std.proofs.Common.{◌≡◌, ℕ, ◌+◌, ◌*◌, ◌≤◌, List, [], ◌∷◌, ◌++◌, length, Bool, true, false, cond, ◌&&◌, ◌||◌, ◌==◌, nat_lt, Option, Some, None, inl, inr, refl, sym, ap, ◌∙◌, arith, length-append}
use Rattle.std.specs.Prelude.{option_and_then}
use Rattle.std.specs.Char.{is_digit, digit_value, encode_utf8}
use Rattle.std.proofs.lemmas.Bool.{and_parts, eqb-true, eqb-false, ltb-false, ne_eqb, cases_lt, false≢true}
use Rattle.json.specs.Print.{escape_byte, escape}
use Rattle.json.proofs.Printed.Strings.{escape_byte_plain}
use Rattle.json.specs.Text.{code_unit, short_escape, is_high_surrogate, is_low_surrogate, surrogate_pair, Within, plain, after_backslash, after_u, after_high, prepend, content}
use Rattle.json.specs.Word.{is_operator, is_space}
use Rattle.json.specs.Lex.{Class, quote, backslash, operator, space, other, class, Mode, between, in_word, in_string, in_escape}
use Rattle.cacao_json.proofs.Chars.{AreHigh, encoded}

abbrev pub left_byte : Mode → Class → (Mode → ℕ) → ℕ
left_byte between c k = 0
left_byte in_word quote k = 1 + k in_word
left_byte in_word backslash k = 1 + k in_word
left_byte in_word operator k = 0
left_byte in_word space k = 0
left_byte in_word other k = 1 + k in_word
left_byte in_string quote k = 1
left_byte in_string backslash k = 1 + k in_escape
left_byte in_string operator k = 1 + k in_string
left_byte in_string space k = 1 + k in_string
left_byte in_string other k = 1 + k in_string
left_byte in_escape c k = 1 + k in_string

-- how many bytes are left of the lexeme that the lexer is in
abbrev pub left : Mode → List ℕ → ℕ
left m [] = 0
left m (x ∷ xs) = left_byte m (class x) (λ n. left n xs)

passes : (o s : Bool) (k : Mode → ℕ) → left_byte in_string (cond o operator (cond s space other)) k ≡ 1 + k in_string
passes true s k = refl
passes false true k = refl
passes false false k = refl

left_plain : (x : ℕ) (xs : List ℕ) → (x == 34) ≡ false → (x == 92) ≡ false → left in_string (x ∷ xs) ≡ 1 + left in_string xs
left_plain x xs q b =
    let k = λ (n : Mode). left n xs in
    let last = cond (is_operator x) operator (cond (is_space x) space other) in
    ap (λ t. left_byte in_string (cond t quote (cond (x == 92) backslash last)) k) q ∙ ap (λ t. left_byte in_string (cond t backslash last) k) b ∙ passes (is_operator x) (is_space x) k

left_backslash : (x : ℕ) (xs : List ℕ) → (x == 92) ≡ true → left in_string (x ∷ xs) ≡ 1 + left in_escape xs
left_backslash x xs b = ap (λ y. left in_string (y ∷ xs)) (eqb-true x 92 b)

left_quote : (x : ℕ) (xs : List ℕ) → (x == 34) ≡ true → left in_string (x ∷ xs) ≡ 1
left_quote x xs q = ap (λ y. left in_string (y ∷ xs)) (eqb-true x 34 q)

hex_is_not : (x c : ℕ) → is_digit x 16 ≡ true → is_digit c 16 ≡ false → (x == c) ≡ false
hex_is_not x c h n = ne_eqb x c (λ e. false≢true (sym n ∙ ap (λ y. is_digit y 16) (sym e) ∙ h))

left_hex : (x : ℕ) (xs : List ℕ) → is_digit x 16 ≡ true → left in_string (x ∷ xs) ≡ 1 + left in_string xs
left_hex x xs h = left_plain x xs (hex_is_not x 34 h refl) (hex_is_not x 92 h refl)

found : (t : Bool) (v u : ℕ) → cond t (Some v) None ≡ Some u → t ≡ true
found true v u e = refl
found false v u e = absurd (cc)

left_unit : (a b c d u : ℕ) (xs : List ℕ) → code_unit a b c d ≡ Some u → left in_string (a ∷ b ∷ c ∷ d ∷ xs) ≡ 4 + left in_string xs
unfolding code_unit
left_unit a b c d u xs e =
    let w = found (is_digit a 16 && is_digit b 16 && is_digit c 16 && is_digit d 16) (digit_value a * 4096 + digit_value b * 256 + digit_value c * 16 + digit_value d) u e in
    let p = and_parts (is_digit a 16 && is_digit b 16 && is_digit c 16) (is_digit d 16) w in
    let q = and_parts (is_digit a 16 && is_digit b 16) (is_digit c 16) p.0 in
    let r = and_parts (is_digit a 16) (is_digit b 16) q.0 in
    omega (arith, left_hex a (b ∷ c ∷ d ∷ xs) r.0, left_hex b (c ∷ d ∷ xs) r.1, left_hex c (d ∷ xs) q.1, left_hex d xs p.1)

-- ---- escapes

six : (a b : Bool) (x y z w : ℕ) → length (cond a (92 ∷ x ∷ []) (cond b (92 ∷ 117 ∷ 48 ∷ 48 ∷ y ∷ z ∷ []) (w ∷ []))) ≤ 6
six true b x y z w = omega arith
six false true x y z w = omega arith
six false false x y z w = omega arith

escape_six : (x : ℕ) → length (escape_byte x) ≤ 6
unfolding escape_byte
escape_six x = six _ _ _ _ _ x

escape-append : (xs ys : List ℕ) → length (escape (xs ++ ys)) ≡ length (escape xs) + length (escape ys)
escape-append [] ys = omega arith
escape-append (x ∷ xs) ys = omega (arith, escape-append xs ys, length-append (escape_byte x) (escape (xs ++ ys)), length-append (escape_byte x) (escape xs))

escape_one : (x : ℕ) → (x ≡ 34 → ⊥) → (x ≡ 92 → ⊥) → 32 ≤ x → length (escape_byte x) ≡ 1
escape_one x q b h = ap length (escape_byte_plain x q b h)

escape_high : (xs : List ℕ) → AreHigh xs → length (escape xs) ≡ length xs
escape_high [] h = refl
escape_high (x ∷ xs) h = omega (arith, escape_one x (λ e. omega (arith, h.0)) (λ e. omega (arith, h.0)) (omega (arith, h.0)), escape_high xs h.1, length-append (escape_byte x) (escape xs))

escape_char : (u : ℕ) → length (escape (encode_utf8 u)) ≤ 6
escape_char u =
    let w = encoded u in
    let same : length (escape (encode_utf8 u)) ≡ length (escape_byte w.first) + length w.others = ap (λ l. length (escape l)) w.parts ∙ length-append (escape_byte w.first) (escape w.others) ∙ ap (λ n. length (escape_byte w.first) + n) (escape_high w.others w.high) in
    elim (cases_lt w.first 128) [
      | inl low ↦ omega (arith, same, escape_six w.first, ap length (w.alone low))
      | inr high ↦ omega (arith, same, escape_one w.first (λ e. omega arith) (λ e. omega arith) (omega arith), w.short)
    ]

-- ---- content

-- as it stands in a string, with the closing quotation mark
abbrev pub AtMost : ℕ → Option (List ℕ) → Type 0
AtMost n None = Unit {0}
AtMost n (Some s) = length (escape s) + 1 ≤ n

if_cond : (n : ℕ) (b : Bool) (x y : Option (List ℕ)) → (b ≡ true → AtMost n x) → (b ≡ false → AtMost n y) → AtMost n (cond b x y)
if_cond n true x y f g = f refl
if_cond n false x y f g = g refl

if_then : (n : ℕ) (f : ℕ → Option (List ℕ)) (o : Option ℕ) → ((u : ℕ) → o ≡ Some u → AtMost n (f u)) → AtMost n (option_and_then f o)
if_then n f None h = tt
if_then n f (Some u) h = h u refl

more : (n m : ℕ) (r : Option (List ℕ)) → AtMost m r → m ≤ n → AtMost n r
more n m None h le = tt
more n m (Some s) h le = omega arith

longer : (n m : ℕ) (a : List ℕ) (r : Option (List ℕ)) → AtMost m r → length (escape a) + m ≤ n → AtMost n (prepend a r)
longer n m a None h le = tt
longer n m a (Some s) h le = omega (arith, escape-append a s)

length_single : (x : ℕ) → length (escape (x ∷ [])) ≡ length (escape_byte x)
length_single x = length-append (escape_byte x) [] ∙ omega arith

-- what a short escape stands for is written with two bytes at most
abbrev IsShort : Option ℕ → Type 0
IsShort o = (c : ℕ) → o ≡ Some c → length (escape_byte c) ≤ 2

short_if : (b : Bool) (o p : Option ℕ) → (b ≡ true → IsShort o) → IsShort p → IsShort (cond b o p)
short_if true o p f g = f refl
short_if false o p f g = g

short_of : (v : ℕ) → length (escape_byte v) ≤ 2 → IsShort (Some v)
short_of v h c e = let same : v ≡ c = cc in omega (arith, h, ap (λ y. length (escape_byte y)) same)

three : (a b d : Bool) (x : ℕ) → (a ≡ true → x ≡ 34) → (b ≡ true → x ≡ 92) → (d ≡ true → x ≡ 47) → (a || b || d) ≡ true → length (escape_byte x) ≤ 2
unfolding escape_byte
three true b d x f g h w = rw (f refl) (omega arith)
three false true d x f g h w = rw (g refl) (omega arith)
three false false true x f g h w = rw (h refl) (omega arith)
three false false false x f g h w = absurd (cc)

is_short : (x : ℕ) → IsShort (short_escape x)
unfolding short_escape escape_byte
is_short x =
    short_if ((x == 34) || (x == 92) || (x == 47)) (Some x) _ (λ e. short_of x (three (x == 34) (x == 92) (x == 47) x (eqb-true x 34) (eqb-true x 92) (eqb-true x 47) e))
    (short_if (x == 98) (Some 8) _ (λ e. short_of 8 (omega arith)) (short_if (x == 102) (Some 12) _ (λ e. short_of 12 (omega arith)) (short_if (x == 110) (Some 10) _ (λ e. short_of 10 (omega arith))
    (short_if (x == 114) (Some 13) _ (λ e. short_of 13 (omega arith)) (short_if (x == 116) (Some 9) None (λ e. short_of 9 (omega arith)) (λ c f. absurd (cc)))))))

abbrev Bound : Within → List ℕ → Type 0
Bound plain xs = AtMost (left in_string xs) (content plain xs)
Bound after_backslash xs = AtMost (1 + left in_escape xs) (content after_backslash xs)
Bound after_u xs = AtMost (2 + left in_string xs) (content after_u xs)
Bound (after_high h) xs = AtMost (6 + left in_string xs) (content (after_high h) xs)

bound : (w : Within) (xs : List ℕ) → Bound w xs
unfolding content
bound plain [] = tt
bound plain (x ∷ xs) =
    let n = left in_string (x ∷ xs) in
    if_cond n (x == 34) (Some []) _ (λ q. omega (arith, left_quote x xs q)) (λ q.
    if_cond n (x == 92) (content after_backslash xs) _ (λ b. more n (1 + left in_escape xs) (content after_backslash xs) (bound after_backslash xs) (omega (arith, left_backslash x xs b))) (λ b.
    if_cond n (nat_lt x 32) None _ (λ l. tt) (λ l.
    longer n (left in_string xs) (x ∷ []) (content plain xs) (bound plain xs)
    (omega (arith, left_plain x xs q b, length_single x, escape_one x (eqb-false x 34 q) (eqb-false x 92 b) (ltb-false x 32 l))))))
bound after_backslash [] = tt
bound after_backslash (x ∷ xs) =
    let n = 1 + left in_escape (x ∷ xs) in
    if_cond n (x == 117) (content after_u xs) _ (λ e. more n (2 + left in_string xs) (content after_u xs) (bound after_u xs) (omega arith)) (λ e.
    if_then n (λ c. prepend (c ∷ []) (content plain xs)) (short_escape x) (λ c f. longer n (left in_string xs) (c ∷ []) (content plain xs) (bound plain xs) (omega (arith, length_single c, is_short x c f))))
bound after_u [] = tt
bound after_u (a ∷ []) = tt
bound after_u (a ∷ b ∷ []) = tt
bound after_u (a ∷ b ∷ c ∷ []) = tt
bound after_u (a ∷ b ∷ c ∷ d ∷ xs) =
    let n = 2 + left in_string (a ∷ b ∷ c ∷ d ∷ xs) in
    if_then n _ (code_unit a b c d) (λ u f.
    if_cond n (is_high_surrogate u) (content (after_high u) xs) _ (λ h. more n (6 + left in_string xs) (content (after_high u) xs) (bound (after_high u) xs) (omega (arith, left_unit a b c d u xs f))) (λ h.
    if_cond n (is_low_surrogate u) None _ (λ l. tt) (λ l. longer n (left in_string xs) (encode_utf8 u) (content plain xs) (bound plain xs) (omega (arith, left_unit a b c d u xs f, escape_char u)))))
bound (after_high h) [] = tt
bound (after_high h) (s ∷ []) = tt
bound (after_high h) (s ∷ t ∷ []) = tt
bound (after_high h) (s ∷ t ∷ a ∷ []) = tt
bound (after_high h) (s ∷ t ∷ a ∷ b ∷ []) = tt
bound (after_high h) (s ∷ t ∷ a ∷ b ∷ c ∷ []) = tt
bound (after_high h) (s ∷ t ∷ a ∷ b ∷ c ∷ d ∷ xs) =
    let n = 6 + left in_string (s ∷ t ∷ a ∷ b ∷ c ∷ d ∷ xs) in
    if_cond n ((s == 92) && (t == 117)) _ None (λ e.
    if_then n _ (code_unit a b c d) (λ l f.
    if_cond n (is_low_surrogate l) _ None (λ low. longer n (left in_string xs) (encode_utf8 (surrogate_pair h l)) (content plain xs) (bound plain xs)
    (omega (arith, left_backslash s (t ∷ a ∷ b ∷ c ∷ d ∷ xs) (and_parts (s == 92) (t == 117) e).0, left_unit a b c d l xs f, escape_char (surrogate_pair h l)))) (λ low. tt))) (λ e. tt)

pub content-length : (xs : List ℕ) → AtMost (left in_string xs) (content plain xs)
content-length xs = bound plain xs
