-- A word of a text that is a number or a literal goes on to an operator, a space or the end, with no quotation mark and
-- no backslash in it, and its token's text is no longer than it.
use Rattle.std.proofs.Common.{◌≡◌, ℕ, zero, suc, ◌+◌, ◌-◌, ◌<◌, ◌≤◌, Bool, true, false, not, ◌&&◌, ◌||◌, ◌==◌, cond, List, [], ◌∷◌, ◌++◌, length, take, drop, Option, Some, None, option_and_then, inl, inr, ◌⊎◌, refl, sym, ap, subst, ◌∙◌, arith}
use Rattle.std.proofs.lemmas.Bool.{true≢false, false≢true, eqb-true, leb-true, and_parts, or_cases, cases_eq}
use Rattle.std.proofs.lemmas.List.{take-append-drop, length-take-le, length-append}
use Rattle.std.proofs.lemmas.Slice.Eq.{bytes_eq-Decides}
use Rattle.std.specs.List.{prefix_len}
use Rattle.std.specs.Char.{is_ascii_digit}
use Rattle.json.specs.Token.{Token}
use Rattle.json.specs.Print.{token_text}
use Rattle.json.specs.Word.{is_operator, is_space, head, ends_word, after_digits, after_minus, after_sign, after_whole, after_fraction, after_exponent, after_number, number_before, literal, word}
use Rattle.json.specs.Lex.{Class, quote, backslash, operator, space, other, class}

abbrev pub is_good : Token → Bool
is_good Token.begin_object = true
is_good Token.end_object = true
is_good Token.begin_array = true
is_good Token.end_array = true
is_good (Token.key s) = true
is_good (Token.string s) = true
is_good (Token.number s) = true
is_good (Token.boolean b) = true
is_good Token.null = true
is_good Token.bad = false

abbrev pub safe_byte : Class → Bool → Bool
safe_byte quote rest = false
safe_byte backslash rest = false
safe_byte operator rest = true
safe_byte space rest = true
safe_byte other rest = rest

-- no quotation mark and no backslash before the first operator or space
abbrev pub is_safe : List ℕ → Bool
is_safe [] = true
is_safe (x ∷ xs) = safe_byte (class x) (is_safe xs)

abbrev pub word_byte : Class → ℕ → ℕ
word_byte quote rest = 1 + rest
word_byte backslash rest = 1 + rest
word_byte operator rest = 0
word_byte space rest = 0
word_byte other rest = 1 + rest

-- how many bytes stand before the first operator or space
abbrev pub word_len : List ℕ → ℕ
word_len [] = 0
word_len (x ∷ xs) = word_byte (class x) (word_len xs)

-- from t on the word goes on until rest
record Run (t rest : List ℕ) : Type 0 where
  stays : is_safe rest ≡ true → is_safe t ≡ true
  long : length t + word_len rest ≤ word_len t + length rest

run_none : (t : List ℕ) → Run t t
run_none t = record { stays = λ h. h; long = omega arith }

run_more : (t u rest : List ℕ) → Run t u → Run u rest → Run t rest
run_more t u rest a b = record { stays = λ h. a.stays (b.stays h); long = omega (arith, a.long, b.long) }

run_by : (c : Class) (x : ℕ) (xs : List ℕ) → class x ≡ c → c ≡ other → Run (x ∷ xs) xs
run_by quote x xs e o = absurd (cc)
run_by backslash x xs e o = absurd (cc)
run_by operator x xs e o = absurd (cc)
run_by space x xs e o = absurd (cc)
run_by other x xs e o = record {
  stays = λ h. ap (λ c. safe_byte c (is_safe xs)) e ∙ h;
  long = omega (arith, ap (λ c. word_byte c (word_len xs)) e);
}

run_one : (x : ℕ) (xs : List ℕ) → class x ≡ other → Run (x ∷ xs) xs
run_one x xs e = run_by other x xs e refl

abbrev is_other : Class → Bool
is_other quote = false
is_other backslash = false
is_other operator = false
is_other space = false
is_other other = true

other_is : (c : Class) → is_other c ≡ true → c ≡ other
other_is quote e = absurd (cc)
other_is backslash e = absurd (cc)
other_is operator e = absurd (cc)
other_is space e = absurd (cc)
other_is other e = refl

-- ---- digits

abbrev each_below : (ℕ → Bool) → ℕ → Bool
each_below test zero = true
each_below test (suc n) = test n && each_below test n

each_below_at : (test : ℕ → Bool) (n : ℕ) → each_below test n ≡ true → (x : ℕ) → x < n → test x ≡ true
each_below_at test zero e x h = absurd (omega arith)
each_below_at test (suc n) e x h =
    let p = and_parts _ _ e in
    elim (cases_eq x n) [ inl same ↦ ap test same ∙ p.0 | inr differs ↦ each_below_at test n p.1 x (omega arith) ]

if_digit : (b o : Bool) → (not b || o) ≡ true → b ≡ true → o ≡ true
if_digit true o e h = e
if_digit false o e h = absurd (false≢true h)

digit_is_other : (x : ℕ) → is_ascii_digit x ≡ true → class x ≡ other
digit_is_other x h =
    let small : x < 58 = omega (arith, leb-true x 57 (and_parts _ _ h).1) in
    other_is (class x) (if_digit (is_ascii_digit x) (is_other (class x)) (each_below_at (λ y. not (is_ascii_digit y) || is_other (class y)) 58 refl x small) h)

run_digits_at : (d : Bool) (x : ℕ) (xs : List ℕ) (n : ℕ) → (d ≡ true → class x ≡ other) → Run xs (drop n xs) → Run (x ∷ xs) (drop (cond d (1 + n) 0) (x ∷ xs))
run_digits_at false x xs n e h = run_none (x ∷ xs)
run_digits_at true x xs n e h =
    let k : suc n ≡ 1 + n = omega arith in
    subst (λ m. Run (x ∷ xs) (drop m (x ∷ xs))) k (run_more (x ∷ xs) xs (drop n xs) (run_one x xs (e refl)) h)

run_digits : (t : List ℕ) → Run t (drop (prefix_len is_ascii_digit t) t)
run_digits [] = run_none []
run_digits (x ∷ xs) = run_digits_at (is_ascii_digit x) x xs (prefix_len is_ascii_digit xs) (digit_is_other x) (run_digits xs)

-- ---- the parts of a number

run_head : (c : ℕ) → class c ≡ other → (t : List ℕ) → (head t == c) ≡ true → Run t (drop 1 t)
run_head c k [] e = run_none []
run_head c k (x ∷ xs) e = run_one x xs (ap class (eqb-true x c e) ∙ k)

run_heads : (a b : ℕ) → class a ≡ other → class b ≡ other → (t : List ℕ) → ((head t == a) ≡ true) ⊎ ((head t == b) ≡ true) → Run t (drop 1 t)
run_heads a b j k t (inl e) = run_head a j t e
run_heads a b j k t (inr e) = run_head b k t e

run_if : (b : Bool) (t u : List ℕ) → (b ≡ true → Run t u) → Run t (cond b u t)
run_if true t u h = h refl
run_if false t u h = run_none t

-- the word goes on until what the part left, if it left something
abbrev Runs : List ℕ → Option (List ℕ) → Type 0
Runs t None = Unit {0}
Runs t (Some rest) = Run t rest

runs_after : (t u : List ℕ) → Run t u → (o : Option (List ℕ)) → Runs u o → Runs t o
runs_after t u h None w = tt
runs_after t u h (Some rest) w = run_more t u rest h w

runs_if : (b : Bool) (t : List ℕ) (x y : Option (List ℕ)) → (b ≡ true → Runs t x) → Runs t y → Runs t (cond b x y)
runs_if true t x y f g = f refl
runs_if false t x y f g = g

runs_then : (f : List ℕ → Option (List ℕ)) → ((u : List ℕ) → Runs u (f u)) → (t : List ℕ) (o : Option (List ℕ)) → Runs t o → Runs t (option_and_then f o)
runs_then f h t None w = tt
runs_then f h t (Some u) w = runs_after t u w (f u) (h u)

runs-after_digits : (t : List ℕ) → Runs t (after_digits t)
runs-after_digits t = runs_if (prefix_len is_ascii_digit t == 0) t None (Some (drop (prefix_len is_ascii_digit t) t)) (λ e. tt) (run_digits t)

runs-after_exponent : (t : List ℕ) → Runs t (after_exponent t)
runs-after_exponent t =
    let u = drop 1 t in
    runs_if ((head t == 101) || (head t == 69)) t (after_digits (after_sign u)) (Some t)
    (λ e. runs_after t u (run_heads 101 69 refl refl t (or_cases _ _ e)) (after_digits (after_sign u))
    (runs_after u (after_sign u) (run_if ((head u == 45) || (head u == 43)) u (drop 1 u) (λ s. run_heads 45 43 refl refl u (or_cases _ _ s))) (after_digits (after_sign u)) (runs-after_digits (after_sign u))))
    (run_none t)

runs-after_fraction : (t : List ℕ) → Runs t (after_fraction t)
runs-after_fraction t =
    runs_if (head t == 46) t (after_digits (drop 1 t)) (Some t) (λ e. runs_after t (drop 1 t) (run_head 46 refl t e) (after_digits (drop 1 t)) (runs-after_digits (drop 1 t))) (run_none t)

runs-after_whole : (t : List ℕ) → Runs t (after_whole t)
runs-after_whole t = runs_if (head t == 48) t (Some (drop 1 t)) (after_digits t) (λ e. run_head 48 refl t e) (runs-after_digits t)

runs-after_number : (t : List ℕ) → Runs t (after_number t)
unfolding after_number
runs-after_number t =
    let u = after_minus t in
    runs_then after_exponent runs-after_exponent t (option_and_then after_fraction (after_whole u))
    (runs_then after_fraction runs-after_fraction t (after_whole u)
    (runs_after t u (run_if (head t == 45) t (drop 1 t) (λ e. run_head 45 refl t e)) (after_whole u) (runs-after_whole u)))

-- ---- the end of a word

ended_by : (q b o s rest : Bool) → (q ≡ true → (o || s) ≡ false) → (b ≡ true → (o || s) ≡ false) → (o || s) ≡ true
    → safe_byte (cond q quote (cond b backslash (cond o operator (cond s space other)))) rest ≡ true
ended_by true b o s rest hq hb h = absurd (true≢false (sym h ∙ hq refl))
ended_by false true o s rest hq hb h = absurd (true≢false (sym h ∙ hb refl))
ended_by false false true s rest hq hb h = refl
ended_by false false false true rest hq hb h = refl
ended_by false false false false rest hq hb h = absurd (false≢true h)

ended : (t : List ℕ) → ends_word t ≡ true → is_safe t ≡ true
ended [] h = refl
ended (x ∷ xs) h =
    ended_by (x == 34) (x == 92) (is_operator x) (is_space x) (is_safe xs)
    (λ e. ap (λ y. is_operator y || is_space y) (eqb-true x 34 e)) (λ e. ap (λ y. is_operator y || is_space y) (eqb-true x 92 e)) h

-- ---- words

-- if the token is good, the word is safe and no shorter than the token's text
abbrev IsWordOf : List ℕ → Token → Type 0
IsWordOf t k = is_good k ≡ true → (is_safe t ≡ true) × (length (token_text k) ≤ word_len t)

either : (b : Bool) (t : List ℕ) (x y : Token) → (b ≡ true → IsWordOf t x) → IsWordOf t y → IsWordOf t (cond b x y)
either true t x y f g = f refl
either false t x y f g = g

none_bad : (t : List ℕ) → IsWordOf t Token.bad
none_bad t h = absurd (false≢true h)

number_word : (t : List ℕ) (o : Option (List ℕ)) → Runs t o → IsWordOf t (number_before t o)
number_word t None w = none_bad t
number_word t (Some rest) w =
    either (ends_word rest) t (Token.number (take (length t - length rest) t)) Token.bad
    (λ e h. (w.stays (ended rest e), omega (arith, w.long, length-take-le (length t - length rest) t))) (none_bad t)

literal_word : (name : List ℕ) (k : Token) → ((rest : List ℕ) → Run (name ++ rest) rest) → length (token_text k) ≡ length name → (t : List ℕ) → IsWordOf t (literal name k t)
literal_word name k runs same t =
    let rest = drop (length name) t in
    either _ t k Token.bad
    (λ e h.
    (let both = and_parts _ _ e in
    let front : name ≡ take (length name) t = (bytes_eq-Decides name (take (length name) t)).0 both.0 in
    let whole : name ++ rest ≡ t = ap (λ l. l ++ rest) front ∙ take-append-drop (length name) t in
    let run : Run t rest = subst (λ l. Run l rest) whole (runs rest) in
    (run.stays (ended rest both.1), omega (arith, run.long, same, length-append name rest, ap length whole)))) (none_bad t)

run_text : (a b c d : ℕ) → class a ≡ other → class b ≡ other → class c ≡ other → class d ≡ other → (rest : List ℕ) → Run (a ∷ b ∷ c ∷ d ∷ rest) rest
run_text a b c d i j k l rest =
    run_more _ (b ∷ c ∷ d ∷ rest) rest (run_one a _ i) (run_more _ (c ∷ d ∷ rest) rest (run_one b _ j) (run_more _ (d ∷ rest) rest (run_one c _ k) (run_one d rest l)))

pub is_word-word : (t : List ℕ) → is_good (word t) ≡ true → (is_safe t ≡ true) × (length (token_text (word t)) ≤ word_len t)
unfolding word
is_word-word t =
    either (head t == 116) t _ _ (λ e. literal_word (116 ∷ 114 ∷ 117 ∷ 101 ∷ []) (Token.boolean true) (run_text 116 114 117 101 refl refl refl refl) refl t)
    (either (head t == 102) t _ _ (λ e. literal_word (102 ∷ 97 ∷ 108 ∷ 115 ∷ 101 ∷ []) (Token.boolean false) (λ rest. run_more _ (97 ∷ 108 ∷ 115 ∷ 101 ∷ rest) rest (run_one 102 _ refl) (run_text 97 108 115 101 refl refl refl refl rest)) refl t)
    (either (head t == 110) t _ _ (λ e. literal_word (110 ∷ 117 ∷ 108 ∷ 108 ∷ []) Token.null (run_text 110 117 108 108 refl refl refl refl) refl t) (number_word t (after_number t) (runs-after_number t))))
