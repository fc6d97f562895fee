-- The content of a string of a text in UTF-8 is in UTF-8.
use Rattle.std.proofs.Common.{◌≡◌, ℕ, ◌+◌, ◌-◌, ◌*◌, ◌<◌, ◌≤◌, ◌⊎◌, inl, inr, List, [], ◌∷◌, ◌++◌, Bool, true, false, cond, ◌&&◌, ◌||◌, ◌==◌, nat_lt, nat_le, Option, Some, None, IsUtf8, refl, sym, ap, subst, ◌∙◌, arith}
use Rattle.std.specs.Prelude.{IfSome, option_and_then}
use Rattle.std.specs.Char.{is_digit, digit_value, encode_utf8}
use Rattle.std.proofs.lemmas.Bool.{and_parts, eqb-true, ltb-true, leb-true, le-ltb, lt-ltb, le-leb, cases_lt, false≢true}
use Rattle.std.proofs.lemmas.Str.{IsUtf8-append, IsUtf8-nil, IsUtf8-encode}
use Rattle.json.proofs.Printed.Utf8.{IsUtf8-are_ascii}
use lib.Utf8.{scalar, low_scalar}
use Rattle.json.specs.Text.{code_unit, short_escape, is_high_surrogate, is_low_surrogate, surrogate_pair, Within, plain, after_backslash, after_u, after_high, prepend, content}
use Rattle.cacao_json.proofs.Chars.{AreHigh, first_char, IsUtf8-after}

if_cond : (P : List ℕ → Type 0) (b : Bool) (x y : Option (List ℕ)) → (b ≡ true → IfSome x P) → (b ≡ false → IfSome y P) → IfSome (cond b x y) P
if_cond P true x y f g = f refl
if_cond P false x y f g = g refl

if_then : (P : List ℕ → Type 0) (f : ℕ → Option (List ℕ)) (o : Option ℕ) → ((u : ℕ) → o ≡ Some u → IfSome (f u) P) → IfSome (option_and_then f o) P
if_then P f None h = tt
if_then P f (Some u) h = h u refl

prepended : (P Q : List ℕ → Type 0) (bytes : List ℕ) (r : Option (List ℕ)) → ((s : List ℕ) → Q s → P (bytes ++ s)) → IfSome r Q → IfSome (prepend bytes r) P
prepended P Q bytes None h w = tt
prepended P Q bytes (Some s) h w = h s w

if_more : (P Q : List ℕ → Type 0) (r : Option (List ℕ)) → ((s : List ℕ) → Q s → P s) → IfSome r Q → IfSome r P
if_more P Q None h w = tt
if_more P Q (Some s) h w = h s w

-- ---- hexadecimal digits and escapes are ASCII

abbrev value_of : Bool → Bool → Bool → Bool → Bool → Bool → ℕ → ℕ
value_of a b d e f g c = cond a 36 (cond b (c - 48) (cond d 36 (cond e (c - 55) (cond f 36 (cond g (c - 87) 36)))))

value_high : (c : ℕ) → 128 ≤ c → digit_value c ≡ 36
value_high c h =
    rw (le-ltb c 48 (omega arith), le-ltb c 58 (omega arith), le-ltb c 65 (omega arith), le-ltb c 91 (omega arith), le-ltb c 97 (omega arith), le-ltb c 123 (omega arith)) refl

hex_low : (c : ℕ) → is_digit c 16 ≡ true → c < 128
hex_low c h = elim (cases_lt c 128) [
  | inl low ↦ low
  | inr high ↦ absurd (omega (arith, ltb-true (digit_value c) 16 h, value_high c high))
]

record IsUnit (a b c d u : ℕ) : Type 0 where
  first : a < 128
  second : b < 128
  third : c < 128
  fourth : d < 128
  small : u < 65536

found : (t : Bool) (v u : ℕ) → cond t (Some v) None ≡ Some u → (t ≡ true) × (v ≡ u)
found true v u e = (refl, cc)
found false v u e = absurd (cc)

is_unit : (a b c d u : ℕ) → code_unit a b c d ≡ Some u → IsUnit a b c d u
unfolding code_unit
is_unit a b c d u e =
    let w = found (is_digit a 16 && is_digit b 16 && is_digit c 16 && is_digit d 16) (digit_value a * 4096 + digit_value b * 256 + digit_value c * 16 + digit_value d) u e in
    let p = and_parts (is_digit a 16 && is_digit b 16 && is_digit c 16) (is_digit d 16) w.0 in
    let q = and_parts (is_digit a 16 && is_digit b 16) (is_digit c 16) p.0 in
    let r = and_parts (is_digit a 16) (is_digit b 16) q.0 in
    record {
      first = hex_low a r.0;
      second = hex_low b r.1;
      third = hex_low c q.1;
      fourth = hex_low d p.1;
      small = omega (arith, w.1, ltb-true (digit_value a) 16 r.0, ltb-true (digit_value b) 16 r.1, ltb-true (digit_value c) 16 q.1, ltb-true (digit_value d) 16 p.1);
    }

-- where the escape is known, its letter and what it stands for are ASCII
abbrev Short : ℕ → Option ℕ → Type 0
Short x o = (c : ℕ) → o ≡ Some c → (x < 128) × (c < 128)

short_if : (x : ℕ) (b : Bool) (o p : Option ℕ) → (b ≡ true → Short x o) → Short x p → Short x (cond b o p)
short_if x true o p f g = f refl
short_if x false o p f g = g

short_of : (x k v : ℕ) → x ≡ k → k < 128 → v < 128 → Short x (Some v)
short_of x k v e h w c f = let same : v ≡ c = cc in (omega (arith, e), omega (arith, same))

three : (a b d : Bool) (x : ℕ) → (a ≡ true → x ≡ 34) → (b ≡ true → x ≡ 92) → (d ≡ true → x ≡ 47) → (a || b || d) ≡ true → x < 128
three true b d x f g h w = omega (arith, f refl)
three false true d x f g h w = omega (arith, g refl)
three false false true x f g h w = omega (arith, h refl)
three false false false x f g h w = absurd (cc)

short_low : (x : ℕ) → Short x (short_escape x)
unfolding short_escape
short_low x =
    short_if x ((x == 34) || (x == 92) || (x == 47)) (Some x) _
    (λ e c f. (let low = three (x == 34) (x == 92) (x == 47) x (eqb-true x 34) (eqb-true x 92) (eqb-true x 47) e in let same : x ≡ c = cc in (low, omega (arith, low, same))))
    (short_if x (x == 98) _ _ (λ e. short_of x 98 8 (eqb-true x 98 e) (omega arith) (omega arith))
    (short_if x (x == 102) _ _ (λ e. short_of x 102 12 (eqb-true x 102 e) (omega arith) (omega arith))
    (short_if x (x == 110) _ _ (λ e. short_of x 110 10 (eqb-true x 110 e) (omega arith) (omega arith))
    (short_if x (x == 114) _ _ (λ e. short_of x 114 13 (eqb-true x 114 e) (omega arith) (omega arith))
    (short_if x (x == 116) (Some 9) None (λ e. short_of x 116 9 (eqb-true x 116 e) (omega arith) (omega arith)) (λ c f. absurd (cc)))))))

-- ---- characters by their numbers

is_scalar : (u : ℕ) → (u < 55296) ⊎ ((57344 ≤ u) × (u < 1114112)) → scalar u ≡ true
is_scalar u (inl h) = low_scalar u h
is_scalar u (inr h) = rw (le-ltb u 55296 (omega (arith, h.0)), le-leb 57344 u h.0, lt-ltb u 1114112 h.1) refl

within : (low high u : ℕ) → low ≤ u → u < high → (nat_le low u && nat_lt u high) ≡ true
within low high u h w = rw (le-leb low u h, lt-ltb u high w) refl

other_unit : (u : ℕ) → u < 65536 → is_high_surrogate u ≡ false → is_low_surrogate u ≡ false → scalar u ≡ true
other_unit u small high low = elim (cases_lt u 55296) [
  | inl h ↦ low_scalar u h
  | inr h ↦ elim (cases_lt u 57344) [
    | inl w ↦ elim (cases_lt u 56320) [
      | inl v ↦ absurd (false≢true (sym high ∙ within 55296 56320 u h v))
      | inr v ↦ absurd (false≢true (sym low ∙ within 56320 57344 u v w))
    ]
    | inr w ↦ is_scalar u (inr (w, omega arith))
  ]
]

pair_scalar : (h l : ℕ) → is_high_surrogate h ≡ true → is_low_surrogate l ≡ true → scalar (surrogate_pair h l) ≡ true
pair_scalar h l high low =
    let p = and_parts (nat_le 55296 h) (nat_lt h 56320) high in
    let q = and_parts (nat_le 56320 l) (nat_lt l 57344) low in
    is_scalar (surrogate_pair h l) (inr (omega (arith, leb-true 55296 h p.0, ltb-true h 56320 p.1, leb-true 56320 l q.0, ltb-true l 57344 q.1), omega (arith, leb-true 55296 h p.0, ltb-true h 56320 p.1, leb-true 56320 l q.0, ltb-true l 57344 q.1)))

ascii_one : (c : ℕ) → c < 128 → IsUtf8 (c ∷ [])
ascii_one c h = IsUtf8-are_ascii (c ∷ []) (rw (lt-ltb c 128 h) refl)

-- ---- content

-- the text begins with these bytes, the rest of a character, and then is a text
abbrev After : List ℕ → List ℕ → Type 0
After a s = (t : List ℕ) × (s ≡ a ++ t) × IsUtf8 t

abbrev GivesText : Within → List ℕ → Type 0
GivesText plain xs = (a b : List ℕ) → xs ≡ a ++ b → AreHigh a → IsUtf8 b → IfSome (content plain xs) (After a)
GivesText after_backslash xs = IsUtf8 xs → IfSome (content after_backslash xs) IsUtf8
GivesText after_u xs = IsUtf8 xs → IfSome (content after_u xs) IsUtf8
GivesText (after_high h) xs = is_high_surrogate h ≡ true → IsUtf8 xs → IfSome (content (after_high h) xs) IsUtf8

as_text : (r : Option (List ℕ)) → IfSome r (After []) → IfSome r IsUtf8
as_text r w = if_more IsUtf8 (After []) r (λ s v. subst IsUtf8 (sym v.1) v.2) w

-- in a string, at its next byte
plain_by : (a b : List ℕ) (x : ℕ) (xs : List ℕ) → x ∷ xs ≡ a ++ b → AreHigh a → IsUtf8 b → GivesText plain xs → GivesText after_backslash xs → IfSome (content plain (x ∷ xs)) (After a)
unfolding content
plain_by [] b x xs e h u more escape =
    let text : IsUtf8 (x ∷ xs) = subst IsUtf8 (sym e) u in
    let w = first_char x xs text in
    if_cond (After []) (x == 34) (Some []) _ (λ q. ([], refl, IsUtf8-nil)) (λ q.
    if_cond (After []) (x == 92) (content after_backslash xs) _ (λ s. if_more (After []) IsUtf8 (content after_backslash xs) (λ t v. (t, refl, v)) (escape (IsUtf8-after x xs (omega (arith, eqb-true x 92 s)) text))) (λ s.
    if_cond (After []) (nat_lt x 32) None _ (λ l. tt) (λ l.
    prepended (After []) (After w.others) (x ∷ []) (content plain xs) (λ t v. (x ∷ t, refl, subst (λ y. IsUtf8 (x ∷ y)) (sym v.1) (w.whole v.0 v.2))) (more w.others w.later w.parts w.high w.utf8))))
plain_by (y ∷ a) b x xs e h u more escape =
    let same : x ≡ y = cc in
    let rest : xs ≡ a ++ b = cc in
    if_cond (After (y ∷ a)) (x == 34) (Some []) _ (λ q. absurd (omega (arith, h.0, same, eqb-true x 34 q))) (λ q.
    if_cond (After (y ∷ a)) (x == 92) (content after_backslash xs) _ (λ s. absurd (omega (arith, h.0, same, eqb-true x 92 s))) (λ s.
    if_cond (After (y ∷ a)) (nat_lt x 32) None _ (λ l. tt) (λ l.
    prepended (After (y ∷ a)) (After a) (x ∷ []) (content plain xs) (λ t v. (v.0, ap (λ z. z ∷ t) same ∙ ap (λ z. y ∷ z) v.1, v.2)) (more a b rest h.1 u))))

escape_by : (x : ℕ) (xs : List ℕ) → IsUtf8 (x ∷ xs) → GivesText plain xs → GivesText after_u xs → IfSome (content after_backslash (x ∷ xs)) IsUtf8
unfolding content
escape_by x xs u more unit =
    if_cond IsUtf8 (x == 117) (content after_u xs) _ (λ e. unit (IsUtf8-after x xs (omega (arith, eqb-true x 117 e)) u)) (λ e.
    if_then IsUtf8 (λ c. prepend (c ∷ []) (content plain xs)) (short_escape x) (λ c f.
    prepended IsUtf8 IsUtf8 (c ∷ []) (content plain xs) (λ s v. IsUtf8-append (c ∷ []) s (ascii_one c (short_low x c f).1) v)
    (as_text (content plain xs) (more [] xs refl tt (IsUtf8-after x xs (short_low x c f).0 u)))))

after_four : (a b c d v : ℕ) (xs : List ℕ) → IsUnit a b c d v → IsUtf8 (a ∷ b ∷ c ∷ d ∷ xs) → IsUtf8 xs
after_four a b c d v xs w u =
    IsUtf8-after d xs w.fourth (IsUtf8-after c (d ∷ xs) w.third (IsUtf8-after b (c ∷ d ∷ xs) w.second (IsUtf8-after a (b ∷ c ∷ d ∷ xs) w.first u)))

gives_text : (w : Within) (xs : List ℕ) → GivesText w xs
unfolding content
gives_text plain [] = λ a b e h u. tt
gives_text plain (x ∷ xs) = λ a b e h u. plain_by a b x xs e h u (gives_text plain xs) (gives_text after_backslash xs)
gives_text after_backslash [] = λ u. tt
gives_text after_backslash (x ∷ xs) = λ u. escape_by x xs u (gives_text plain xs) (gives_text after_u xs)
gives_text after_u [] = λ u. tt
gives_text after_u (a ∷ []) = λ u. tt
gives_text after_u (a ∷ b ∷ []) = λ u. tt
gives_text after_u (a ∷ b ∷ c ∷ []) = λ u. tt
gives_text after_u (a ∷ b ∷ c ∷ d ∷ xs) = λ u.
    if_then IsUtf8 _ (code_unit a b c d) (λ v f.
    (let w = is_unit a b c d v f in
    let rest = after_four a b c d v xs w u in
    if_cond IsUtf8 (is_high_surrogate v) (content (after_high v) xs) _ (λ high. gives_text (after_high v) xs high rest) (λ high.
    if_cond IsUtf8 (is_low_surrogate v) None _ (λ low. tt) (λ low.
    prepended IsUtf8 IsUtf8 (encode_utf8 v) (content plain xs) (λ s t. IsUtf8-append (encode_utf8 v) s (IsUtf8-encode v (other_unit v w.small high low)) t)
    (as_text (content plain xs) (gives_text plain xs [] xs refl tt rest))))))
gives_text (after_high h) [] = λ high u. tt
gives_text (after_high h) (s ∷ []) = λ high u. tt
gives_text (after_high h) (s ∷ t ∷ []) = λ high u. tt
gives_text (after_high h) (s ∷ t ∷ a ∷ []) = λ high u. tt
gives_text (after_high h) (s ∷ t ∷ a ∷ b ∷ []) = λ high u. tt
gives_text (after_high h) (s ∷ t ∷ a ∷ b ∷ c ∷ []) = λ high u. tt
gives_text (after_high h) (s ∷ t ∷ a ∷ b ∷ c ∷ d ∷ xs) = λ high u.
    if_cond IsUtf8 ((s == 92) && (t == 117)) _ None (λ e.
    (let p = and_parts (s == 92) (t == 117) e in
    let four = IsUtf8-after t (a ∷ b ∷ c ∷ d ∷ xs) (omega (arith, eqb-true t 117 p.1)) (IsUtf8-after s (t ∷ a ∷ b ∷ c ∷ d ∷ xs) (omega (arith, eqb-true s 92 p.0)) u) in
    if_then IsUtf8 _ (code_unit a b c d) (λ l f.
    if_cond IsUtf8 (is_low_surrogate l) _ None (λ low.
    prepended IsUtf8 IsUtf8 (encode_utf8 (surrogate_pair h l)) (content plain xs) (λ v w. IsUtf8-append (encode_utf8 (surrogate_pair h l)) v (IsUtf8-encode (surrogate_pair h l) (pair_scalar h l high low)) w)
    (as_text (content plain xs) (gives_text plain xs [] xs refl tt (after_four a b c d l xs (is_unit a b c d l f) four)))) (λ low. tt)))) (λ e. tt)

pub IsUtf8-content : (xs : List ℕ) → IsUtf8 xs → IfSome (content plain xs) IsUtf8
IsUtf8-content xs u = as_text (content plain xs) (gives_text plain xs [] xs refl tt u)
