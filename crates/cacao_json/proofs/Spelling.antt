-- The tokens of a text, written with no space, are no longer than the text.
use Rattle.std.proofs.Common.{◌≡◌, ℕ, ◌+◌, ◌≤◌, List, [], ◌∷◌, length, Bool, true, false, ◌==◌, cond, Option, Some, None, refl, ap, arith, length-append}
use Rattle.json.specs.Token.{Token}
use Rattle.json.specs.Text.{content, plain}
use Rattle.json.specs.Print.{token_text, quoted, escape}
use Rattle.json.specs.Word.{is_operator, is_space, word}
use Rattle.json.specs.Lex.{Lexeme, token, comma, colon, Class, quote, backslash, operator, space, other, class, operator_lexeme, string_token, Mode, between, in_word, in_string, in_escape, lex_byte, lex, tokens}
use Rattle.json.specs.Lex.{Place, fresh, after_value, after_comma, after_key, begins_colon, punctuate, place_token, if_allowed, may_begin, may_close}
use Rattle.cacao_json.proofs.Words.{is_good, word_byte, word_len, is_word-word}
use Rattle.cacao_json.proofs.Keys.{if_good}
use Rattle.cacao_json.proofs.EscapeLengths.{left_byte, left, AtMost, content-length}

-- the bytes of the lexemes before the first bad token
abbrev weight : List Lexeme → ℕ
weight [] = 0
weight (token t ∷ ls) = if_good (is_good t) (length (token_text t) + weight ls)
weight (comma ∷ ls) = 1 + weight ls
weight (colon ∷ ls) = 1 + weight ls

abbrev classified : Bool → Bool → Bool → Bool → Class
classified q b o s = cond q quote (cond b backslash (cond o operator (cond s space other)))

left_word_by : (c : Class) (xs : List ℕ) → left in_word xs ≡ word_len xs → left_byte in_word c (λ n. left n xs) ≡ word_byte c (word_len xs)
left_word_by quote xs e = ap (λ n. 1 + n) e
left_word_by backslash xs e = ap (λ n. 1 + n) e
left_word_by operator xs e = refl
left_word_by space xs e = refl
left_word_by other xs e = ap (λ n. 1 + n) e

left_word : (xs : List ℕ) → left in_word xs ≡ word_len xs
left_word [] = refl
left_word (x ∷ xs) = left_word_by (class x) xs (left_word xs)

good_le : (b : Bool) (m n : ℕ) → (b ≡ true → m ≤ n) → if_good b m ≤ n
good_le true m n h = h refl
good_le false m n h = omega arith

length-quoted : (s : List ℕ) → length (quoted s) ≡ length (escape s) + 2
length-quoted s = omega (arith, length-append (escape s) (34 ∷ []))

string_weight : (o : Option (List ℕ)) (n w l : ℕ) → AtMost n o → w + n ≤ l → if_good (is_good (string_token o)) (length (token_text (string_token o)) + w) ≤ 1 + l
string_weight None n w l h k = omega arith
string_weight (Some s) n w l h k = omega (arith, length-quoted s)

operator_weight : (a b c d m : Bool) (ls : List Lexeme)
    → weight (cond a (token Token.begin_object) (cond b (token Token.end_object) (cond c (token Token.begin_array) (cond d (token Token.end_array) (cond m comma colon)))) ∷ ls) ≤ 1 + weight ls
operator_weight true b c d m ls = omega arith
operator_weight false true c d m ls = omega arith
operator_weight false false true d m ls = omega arith
operator_weight false false false true m ls = omega arith
operator_weight false false false false true ls = omega arith
operator_weight false false false false false ls = omega arith

one_operator : (x : ℕ) (ls : List Lexeme) → weight (operator_lexeme x ∷ ls) ≤ 1 + weight ls
one_operator x ls = operator_weight (x == 123) (x == 125) (x == 91) (x == 93) (x == 44) ls

module _ (x : ℕ) (xs : List ℕ) (k : Mode → List Lexeme) (rest : (n : Mode) → weight (k n) + left n xs ≤ length xs) where
  byte_weight : (m : Mode) (q b o s : Bool) → (is_good (word (x ∷ xs)) ≡ true → length (token_text (word (x ∷ xs))) ≤ word_byte (classified q b o s) (word_len xs))
      → weight (lex_byte m (classified q b o s) x xs k) + left_byte m (classified q b o s) (λ n. left n xs) ≤ 1 + length xs
  byte_weight between true b o s h = omega (arith, string_weight (content plain xs) (left in_string xs) (weight (k in_string)) (length xs) (content-length xs) (rest in_string))
  byte_weight between false true o s h = omega arith
  byte_weight between false false true s h = omega (arith, one_operator x (k between), rest between)
  byte_weight between false false false true h = omega (arith, rest between)
  byte_weight between false false false false h =
      let w : is_good (word (x ∷ xs)) ≡ true → length (token_text (word (x ∷ xs))) + weight (k in_word) ≤ 1 + length xs = λ g. omega (arith, h g, rest in_word, left_word xs) in
      omega (arith, good_le (is_good (word (x ∷ xs))) (length (token_text (word (x ∷ xs))) + weight (k in_word)) (1 + length xs) w)
  byte_weight in_word true b o s h = omega (arith, rest in_word)
  byte_weight in_word false true o s h = omega (arith, rest in_word)
  byte_weight in_word false false true s h = omega (arith, one_operator x (k between), rest between)
  byte_weight in_word false false false true h = omega (arith, rest between)
  byte_weight in_word false false false false h = omega (arith, rest in_word)
  byte_weight in_string true b o s h = omega (arith, rest between)
  byte_weight in_string false true o s h = omega (arith, rest in_escape)
  byte_weight in_string false false true s h = omega (arith, rest in_string)
  byte_weight in_string false false false true h = omega (arith, rest in_string)
  byte_weight in_string false false false false h = omega (arith, rest in_string)
  byte_weight in_escape q b o s h = omega (arith, rest in_string)

weight-lex : (m : Mode) (xs : List ℕ) → weight (lex m xs) + left m xs ≤ length xs
unfolding lex
weight-lex m [] = omega arith
weight-lex m (x ∷ xs) =
    omega (arith, byte_weight x xs (λ n. lex n xs) (λ n. weight-lex n xs) m (x == 34) (x == 92) (is_operator x) (is_space x) (λ g. (is_word-word (x ∷ xs) g).1))

-- ---- tokens

abbrev pub comma_if : Bool → ℕ
comma_if later = cond later 1 0

-- how long the tokens are when they are written, after a value or not, up to the first bad one
abbrev pub spelled : Bool → List Token → ℕ
spelled later [] = 0
spelled later (Token.begin_object ∷ ts) = comma_if later + (1 + spelled false ts)
spelled later (Token.end_object ∷ ts) = 1 + spelled true ts
spelled later (Token.begin_array ∷ ts) = comma_if later + (1 + spelled false ts)
spelled later (Token.end_array ∷ ts) = 1 + spelled true ts
spelled later (Token.key s ∷ ts) = comma_if later + (length (quoted s) + 1 + spelled false ts)
spelled later (Token.string s ∷ ts) = comma_if later + (length (quoted s) + spelled true ts)
spelled later (Token.number s ∷ ts) = comma_if later + (length s + spelled true ts)
spelled later (Token.boolean b ∷ ts) = comma_if later + (length (token_text (Token.boolean b)) + spelled true ts)
spelled later (Token.null ∷ ts) = comma_if later + (4 + spelled true ts)
spelled later (Token.bad ∷ ts) = 0

-- whether a value has just ended, or a comma after it
abbrev ended : Place → Bool
ended fresh = false
ended after_value = true
ended after_comma = true
ended after_key = false

-- the comma that was passed
abbrev given : Place → ℕ
given fresh = 0
given after_value = 0
given after_comma = 1
given after_key = 0

-- the colon that a key has already
abbrev owed : Place → Bool → ℕ
owed after_key true = 1
owed after_key false = 0
owed fresh b = 0
owed after_value b = 0
owed after_comma b = 0

comma_given : (p : Place) → may_begin p ≡ true → comma_if (ended p) ≤ given p
comma_given fresh e = omega arith
comma_given after_value e = absurd (cc)
comma_given after_comma e = omega arith
comma_given after_key e = absurd (cc)

allowed : (b : Bool) (t : Token) (k : Place → List Token) (next : Place) (later : Bool) (n : ℕ) → (b ≡ true → spelled later (t ∷ k next) ≤ n) → spelled later (if_allowed b t k next) ≤ n
allowed true t k next later n h = h refl
allowed false t k next later n h = omega arith

placed : (p : Place) (t : Token) (b : Bool) (ls : List Lexeme) → spelled false (punctuate fresh ls) ≤ weight ls → spelled true (punctuate after_value ls) ≤ weight ls → spelled false (punctuate after_key ls) + owed after_key b ≤ weight ls
    → spelled (ended p) (place_token p t b (λ q. punctuate q ls)) ≤ weight (token t ∷ ls) + given p
placed p Token.begin_object b ls f v w = allowed (may_begin p) _ (λ q. punctuate q ls) fresh (ended p) _ (λ e. omega (arith, comma_given p e, f))
placed p Token.end_object b ls f v w = allowed (may_close p) _ (λ q. punctuate q ls) after_value (ended p) _ (λ e. omega (arith, v))
placed p Token.begin_array b ls f v w = allowed (may_begin p) _ (λ q. punctuate q ls) fresh (ended p) _ (λ e. omega (arith, comma_given p e, f))
placed p Token.end_array b ls f v w = allowed (may_close p) _ (λ q. punctuate q ls) after_value (ended p) _ (λ e. omega (arith, v))
placed p (Token.key s) b ls f v w = omega arith
placed p (Token.string s) true ls f v w = allowed (may_begin p) _ (λ q. punctuate q ls) after_key (ended p) _ (λ e. omega (arith, comma_given p e, w))
placed p (Token.string s) false ls f v w = allowed (may_begin p) _ (λ q. punctuate q ls) after_value (ended p) _ (λ e. omega (arith, comma_given p e, v))
placed p (Token.number s) b ls f v w = allowed (may_begin p) _ (λ q. punctuate q ls) after_value (ended p) _ (λ e. omega (arith, comma_given p e, v))
placed p (Token.boolean b') b ls f v w = allowed (may_begin p) _ (λ q. punctuate q ls) after_value (ended p) _ (λ e. omega (arith, comma_given p e, v))
placed p Token.null b ls f v w = allowed (may_begin p) _ (λ q. punctuate q ls) after_value (ended p) _ (λ e. omega (arith, comma_given p e, v))
placed p Token.bad b ls f v w = omega arith

spelled-punctuate : (p : Place) (ls : List Lexeme) → spelled (ended p) (punctuate p ls) + owed p (begins_colon ls) ≤ weight ls + given p
unfolding punctuate
spelled-punctuate fresh [] = omega arith
spelled-punctuate after_value [] = omega arith
spelled-punctuate after_comma [] = omega arith
spelled-punctuate after_key [] = omega arith
spelled-punctuate fresh (comma ∷ ls) = omega arith
spelled-punctuate after_value (comma ∷ ls) = omega (arith, spelled-punctuate after_comma ls)
spelled-punctuate after_comma (comma ∷ ls) = omega arith
spelled-punctuate after_key (comma ∷ ls) = omega arith
spelled-punctuate fresh (colon ∷ ls) = omega arith
spelled-punctuate after_value (colon ∷ ls) = omega arith
spelled-punctuate after_comma (colon ∷ ls) = omega arith
spelled-punctuate after_key (colon ∷ ls) = omega (arith, spelled-punctuate fresh ls)
spelled-punctuate fresh (token t ∷ ls) = omega (arith, placed fresh t (begins_colon ls) ls (omega (arith, spelled-punctuate fresh ls)) (omega (arith, spelled-punctuate after_value ls)) (omega (arith, spelled-punctuate after_key ls)))
spelled-punctuate after_value (token t ∷ ls) = omega (arith, placed after_value t (begins_colon ls) ls (omega (arith, spelled-punctuate fresh ls)) (omega (arith, spelled-punctuate after_value ls)) (omega (arith, spelled-punctuate after_key ls)))
spelled-punctuate after_comma (token t ∷ ls) = omega (arith, placed after_comma t (begins_colon ls) ls (omega (arith, spelled-punctuate fresh ls)) (omega (arith, spelled-punctuate after_value ls)) (omega (arith, spelled-punctuate after_key ls)))
spelled-punctuate after_key (token t ∷ ls) = omega (arith, placed after_key t (begins_colon ls) ls (omega (arith, spelled-punctuate fresh ls)) (omega (arith, spelled-punctuate after_value ls)) (omega (arith, spelled-punctuate after_key ls)))

pub spelled-tokens : (text : List ℕ) → spelled false (tokens text) ≤ length text
spelled-tokens text = omega (arith, spelled-punctuate fresh (lex between text), weight-lex between text)
