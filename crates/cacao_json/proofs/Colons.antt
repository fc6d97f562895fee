-- The colons among a text's lexemes are at most its colons outside strings, and its lexemes are at most its bytes.
use Rattle.std.proofs.Common.{◌≡◌, ℕ, ◌+◌, ◌≤◌, List, [], ◌∷◌, length, Bool, true, false, ◌||◌, ◌==◌, cond, refl, arith}
use Rattle.json.specs.Token.{Token}
use Rattle.json.specs.Text.{content, plain}
use Rattle.json.specs.Word.{is_operator, is_space, word}
use Rattle.json.specs.Lex.{Lexeme, token, comma, colon, Class, quote, backslash, operator, space, other, class, operator_lexeme, string_token, Mode, between, in_word, in_string, in_escape, lex_byte, lex, fresh, tokens}
use Rattle.cacao_json_counts.specs.Counts.{Position, Outside, Inside, Escaped, colons_from, colons}
use Rattle.cacao_json.proofs.Words.{is_good, is_safe, safe_byte, is_word-word}
use Rattle.cacao_json.specs.Straight.{keys_in}
use Rattle.cacao_json.proofs.Keys.{colons_in, if_good, keys_in-punctuate, length-punctuate}

abbrev classified : Bool → Bool → Bool → Bool → Class
classified q b o s = cond q quote (cond b backslash (cond o operator (cond s space other)))

if_good_le : (b : Bool) (m n : ℕ) → (b ≡ true → m ≤ n) → if_good b m ≤ n
if_good_le true m n h = h refl
if_good_le false m n h = omega arith

one_operator : (a b c d k m : Bool) (ls : List Lexeme) → (a || b || c || d || k || m) ≡ true
    → colons_in (cond a (token Token.begin_object) (cond b (token Token.end_object) (cond c (token Token.begin_array) (cond d (token Token.end_array) (cond m comma colon)))) ∷ ls) ≤ cond k 1 0 + colons_in ls
one_operator true b c d k m ls h = omega arith
one_operator false true c d k m ls h = omega arith
one_operator false false true d k m ls h = omega arith
one_operator false false false true k m ls h = omega arith
one_operator false false false false k true ls h = omega arith
one_operator false false false false true false ls h = omega arith
one_operator false false false false false false ls h = absurd (cc)

abbrev IfInWord : Mode → Bool → Type 0
IfInWord between b = Unit {0}
IfInWord in_word b = b ≡ true
IfInWord in_string b = Unit {0}
IfInWord in_escape b = Unit {0}

abbrev place_of : Mode → Position
place_of between = Outside
place_of in_word = Outside
place_of in_string = Inside
place_of in_escape = Escaped

module _ (x : ℕ) (xs : List ℕ) (k : Mode → List Lexeme) (rest : (n : Mode) → IfInWord n (is_safe xs) → colons_in (k n) ≤ colons_from (place_of n) xs) where
  outside : (q b o s : Bool) → (o ≡ true → (ls : List Lexeme) → colons_in (operator_lexeme x ∷ ls) ≤ cond (x == 58) 1 0 + colons_in ls)
      → (is_good (word (x ∷ xs)) ≡ true → safe_byte (classified q b o s) (is_safe xs) ≡ true)
      → colons_in (lex_byte between (classified q b o s) x xs k) ≤ cond (x == 58) 1 0 + colons_from (cond q Inside Outside) xs
  outside true b o s mark safe = omega (arith, if_good_le (is_good (string_token (content plain xs))) (colons_in (k in_string)) (colons_from Inside xs) (λ g. rest in_string tt))
  outside false true o s mark safe = omega arith
  outside false false true s mark safe = omega (arith, mark refl (k between), rest between tt)
  outside false false false true mark safe = omega (arith, rest between tt)
  outside false false false false mark safe = omega (arith, if_good_le (is_good (word (x ∷ xs))) (colons_in (k in_word)) (colons_from Outside xs) (λ g. rest in_word (safe g)))

  within_word : (q b o s : Bool) → (o ≡ true → (ls : List Lexeme) → colons_in (operator_lexeme x ∷ ls) ≤ cond (x == 58) 1 0 + colons_in ls) → safe_byte (classified q b o s) (is_safe xs) ≡ true
      → colons_in (lex_byte in_word (classified q b o s) x xs k) ≤ cond (x == 58) 1 0 + colons_from (cond q Inside Outside) xs
  within_word true b o s mark safe = absurd (cc)
  within_word false true o s mark safe = absurd (cc)
  within_word false false true s mark safe = omega (arith, mark refl (k between), rest between tt)
  within_word false false false true mark safe = omega (arith, rest between tt)
  within_word false false false false mark safe = omega (arith, rest in_word safe)

  within_string : (q b o s : Bool) → colons_in (lex_byte in_string (classified q b o s) x xs k) ≤ colons_from (cond q Outside (cond b Escaped Inside)) xs
  within_string true b o s = rest between tt
  within_string false true o s = rest in_escape tt
  within_string false false true s = rest in_string tt
  within_string false false false true = rest in_string tt
  within_string false false false false = rest in_string tt

colons_in-lex : (m : Mode) (xs : List ℕ) → IfInWord m (is_safe xs) → colons_in (lex m xs) ≤ colons_from (place_of m) xs
unfolding lex
colons_in-lex between [] h = omega arith
colons_in-lex in_word [] h = omega arith
colons_in-lex in_string [] h = omega arith
colons_in-lex in_escape [] h = omega arith
colons_in-lex between (x ∷ xs) h =
    outside x xs (λ n. lex n xs) (λ n i. colons_in-lex n xs i) (x == 34) (x == 92) (is_operator x) (is_space x)
    (λ o ls. one_operator (x == 123) (x == 125) (x == 91) (x == 93) (x == 58) (x == 44) ls o) (λ g. (is_word-word (x ∷ xs) g).0)
colons_in-lex in_word (x ∷ xs) h =
    within_word x xs (λ n. lex n xs) (λ n i. colons_in-lex n xs i) (x == 34) (x == 92) (is_operator x) (is_space x)
    (λ o ls. one_operator (x == 123) (x == 125) (x == 91) (x == 93) (x == 58) (x == 44) ls o) h
colons_in-lex in_string (x ∷ xs) h = omega (arith, within_string x xs (λ n. lex n xs) (λ n i. colons_in-lex n xs i) (x == 34) (x == 92) (is_operator x) (is_space x))
colons_in-lex in_escape (x ∷ xs) h = omega (arith, colons_in-lex in_string xs tt)

one_byte : (m : Mode) (c : Class) (x : ℕ) (xs : List ℕ) (k : Mode → List Lexeme) (n : ℕ) → ((next : Mode) → length (k next) ≤ n) → length (lex_byte m c x xs k) ≤ n + 1
one_byte between quote x xs k n h = omega (arith, h in_string)
one_byte between backslash x xs k n h = omega (arith, h in_word)
one_byte between operator x xs k n h = omega (arith, h between)
one_byte between space x xs k n h = omega (arith, h between)
one_byte between other x xs k n h = omega (arith, h in_word)
one_byte in_word quote x xs k n h = omega (arith, h in_word)
one_byte in_word backslash x xs k n h = omega (arith, h in_word)
one_byte in_word operator x xs k n h = omega (arith, h between)
one_byte in_word space x xs k n h = omega (arith, h between)
one_byte in_word other x xs k n h = omega (arith, h in_word)
one_byte in_string quote x xs k n h = omega (arith, h between)
one_byte in_string backslash x xs k n h = omega (arith, h in_escape)
one_byte in_string operator x xs k n h = omega (arith, h in_string)
one_byte in_string space x xs k n h = omega (arith, h in_string)
one_byte in_string other x xs k n h = omega (arith, h in_string)
one_byte in_escape c x xs k n h = omega (arith, h in_string)

length-lex : (m : Mode) (xs : List ℕ) → length (lex m xs) ≤ length xs
unfolding lex
length-lex m [] = omega arith
length-lex m (x ∷ xs) = omega (arith, one_byte m (class x) x xs (λ n. lex n xs) (length xs) (λ n. length-lex n xs))

-- the keys of a text are at most its colons outside strings
pub keys_in-tokens : (text : List ℕ) → keys_in (tokens text) ≤ colons text
keys_in-tokens text = omega (arith, keys_in-punctuate fresh (lex between text), colons_in-lex between text tt)

-- the tokens of a text are at most its bytes and one more
pub length-tokens : (text : List ℕ) → length (tokens text) ≤ length text + 1
length-tokens text = omega (arith, length-punctuate fresh (lex between text), length-lex between text)
