-- The keys and strings among a text's tokens are in UTF-8.
use Rattle.std.proofs.Common.{◌≡◌, ℕ, List, [], ◌∷◌, ◌++◌, Bool, true, false, ◌==◌, cond, Option, Some, None, IsUtf8, refl, arith}
use Rattle.std.specs.Prelude.{IfSome}
use Rattle.std.proofs.lemmas.Bool.{eqb-true}
use Rattle.json.specs.Token.{Token}
use Rattle.json.specs.Text.{content, plain}
use Rattle.json.specs.Word.{is_operator, is_space, head, ends_word, after_number, number_before, word}
use Rattle.json.specs.Lex.{Lexeme, token, comma, colon, quote, backslash, operator, space, other, operator_lexeme, string_token, Mode, between, in_word, in_string, in_escape, lex_byte, lex, tokens}
use Rattle.json.specs.Lex.{Place, fresh, after_value, after_comma, after_key, begins_colon, punctuate, place_token, if_allowed, may_begin, may_close}
use Rattle.cacao_json.proofs.Chars.{IsTail, tail_next, tail_after, IsTail-from_IsUtf8}
use Rattle.cacao_json.proofs.Contents.{IsUtf8-content}

abbrev pub IsTextToken : Token → Type 0
IsTextToken Token.begin_object = Unit {0}
IsTextToken Token.end_object = Unit {0}
IsTextToken Token.begin_array = Unit {0}
IsTextToken Token.end_array = Unit {0}
IsTextToken (Token.key s) = IsUtf8 s
IsTextToken (Token.string s) = IsUtf8 s
IsTextToken (Token.number s) = Unit {0}
IsTextToken (Token.boolean b) = Unit {0}
IsTextToken Token.null = Unit {0}
IsTextToken Token.bad = Unit {0}

abbrev pub AreTextTokens : List Token → Type 0
AreTextTokens [] = Unit {0}
AreTextTokens (t ∷ ts) = IsTextToken t × AreTextTokens ts

pub text_tokens_parts : (ts us : List Token) → AreTextTokens (ts ++ us) → AreTextTokens ts × AreTextTokens us
text_tokens_parts [] us h = (tt, h)
text_tokens_parts (t ∷ ts) us h = let w = text_tokens_parts ts us h.1 in ((h.0, w.0), w.1)

abbrev AreTextLexemes : List Lexeme → Type 0
AreTextLexemes [] = Unit {0}
AreTextLexemes (token t ∷ ls) = IsTextToken t × AreTextLexemes ls
AreTextLexemes (comma ∷ ls) = AreTextLexemes ls
AreTextLexemes (colon ∷ ls) = AreTextLexemes ls

-- ---- words have no texts

either : (b : Bool) (x y : Token) → IsTextToken x → IsTextToken y → IsTextToken (cond b x y)
either true x y p q = p
either false x y p q = q

number_word : (t : List ℕ) (o : Option (List ℕ)) → IsTextToken (number_before t o)
number_word t None = tt
number_word t (Some r) = either (ends_word r) _ Token.bad tt tt

word_text : (t : List ℕ) → IsTextToken (word t)
unfolding word
word_text t =
    either (head t == 116) _ _ (either _ (Token.boolean true) Token.bad tt tt) (either (head t == 102) _ _ (either _ (Token.boolean false) Token.bad tt tt)
    (either (head t == 110) _ _ (either _ Token.null Token.bad tt tt) (number_word t (after_number t))))

-- ---- lexemes

string_text : (o : Option (List ℕ)) → IfSome o IsUtf8 → IsTextToken (string_token o)
string_text None w = tt
string_text (Some s) w = w

lexeme_if : (b : Bool) (x y : Lexeme) (ls : List Lexeme) → AreTextLexemes (x ∷ ls) → AreTextLexemes (y ∷ ls) → AreTextLexemes (cond b x y ∷ ls)
lexeme_if true x y ls v w = v
lexeme_if false x y ls v w = w

operator_text : (x : ℕ) (ls : List Lexeme) → AreTextLexemes ls → AreTextLexemes (operator_lexeme x ∷ ls)
operator_text x ls w =
    lexeme_if (x == 123) _ _ ls (tt, w) (lexeme_if (x == 125) _ _ ls (tt, w) (lexeme_if (x == 91) _ _ ls (tt, w) (lexeme_if (x == 93) _ _ ls (tt, w) (lexeme_if (x == 44) comma colon ls w w))))

byte_text : (m : Mode) (q b o s : Bool) (x : ℕ) (xs : List ℕ) (k : Mode → List Lexeme) → (q ≡ true → IfSome (content plain xs) IsUtf8) → ((n : Mode) → AreTextLexemes (k n))
    → AreTextLexemes (lex_byte m (cond q quote (cond b backslash (cond o operator (cond s space other)))) x xs k)
byte_text between true b o s x xs k text rest = (string_text (content plain xs) (text refl), rest in_string)
byte_text between false true o s x xs k text rest = (tt, rest in_word)
byte_text between false false true s x xs k text rest = operator_text x (k between) (rest between)
byte_text between false false false true x xs k text rest = rest between
byte_text between false false false false x xs k text rest = (word_text (x ∷ xs), rest in_word)
byte_text in_word true b o s x xs k text rest = rest in_word
byte_text in_word false true o s x xs k text rest = rest in_word
byte_text in_word false false true s x xs k text rest = operator_text x (k between) (rest between)
byte_text in_word false false false true x xs k text rest = rest between
byte_text in_word false false false false x xs k text rest = rest in_word
byte_text in_string true b o s x xs k text rest = rest between
byte_text in_string false true o s x xs k text rest = rest in_escape
byte_text in_string false false true s x xs k text rest = rest in_string
byte_text in_string false false false true x xs k text rest = rest in_string
byte_text in_string false false false false x xs k text rest = rest in_string
byte_text in_escape q b o s x xs k text rest = rest in_string

lex_text : (m : Mode) (xs : List ℕ) → IsTail xs → AreTextLexemes (lex m xs)
unfolding lex
lex_text m [] w = tt
lex_text m (x ∷ xs) w =
    byte_text m (x == 34) (x == 92) (is_operator x) (is_space x) x xs (λ n. lex n xs)
    (λ q. IsUtf8-content xs (tail_after x xs (omega (arith, eqb-true x 34 q)) w)) (λ n. lex_text n xs (tail_next x xs w))

-- ---- tokens

allowed : (b : Bool) (t : Token) (k : Place → List Token) (next : Place) → IsTextToken t → AreTextTokens (k next) → AreTextTokens (if_allowed b t k next)
allowed true t k next h w = (h, w)
allowed false t k next h w = (tt, tt)

placed : (p : Place) (t : Token) (b : Bool) (k : Place → List Token) → IsTextToken t → ((q : Place) → AreTextTokens (k q)) → AreTextTokens (place_token p t b k)
placed p Token.begin_object b k h w = allowed (may_begin p) _ k fresh tt (w fresh)
placed p Token.end_object b k h w = allowed (may_close p) _ k after_value tt (w after_value)
placed p Token.begin_array b k h w = allowed (may_begin p) _ k fresh tt (w fresh)
placed p Token.end_array b k h w = allowed (may_close p) _ k after_value tt (w after_value)
placed p (Token.key s) b k h w = (tt, tt)
placed p (Token.string s) true k h w = allowed (may_begin p) _ k after_key h (w after_key)
placed p (Token.string s) false k h w = allowed (may_begin p) _ k after_value h (w after_value)
placed p (Token.number s) b k h w = allowed (may_begin p) _ k after_value tt (w after_value)
placed p (Token.boolean b') b k h w = allowed (may_begin p) _ k after_value tt (w after_value)
placed p Token.null b k h w = allowed (may_begin p) _ k after_value tt (w after_value)
placed p Token.bad b k h w = (tt, tt)

punctuate_text : (p : Place) (ls : List Lexeme) → AreTextLexemes ls → AreTextTokens (punctuate p ls)
unfolding punctuate
punctuate_text fresh [] w = tt
punctuate_text after_value [] w = tt
punctuate_text after_comma [] w = (tt, tt)
punctuate_text after_key [] w = (tt, tt)
punctuate_text fresh (comma ∷ ls) w = (tt, tt)
punctuate_text after_value (comma ∷ ls) w = punctuate_text after_comma ls w
punctuate_text after_comma (comma ∷ ls) w = (tt, tt)
punctuate_text after_key (comma ∷ ls) w = (tt, tt)
punctuate_text fresh (colon ∷ ls) w = (tt, tt)
punctuate_text after_value (colon ∷ ls) w = (tt, tt)
punctuate_text after_comma (colon ∷ ls) w = (tt, tt)
punctuate_text after_key (colon ∷ ls) w = punctuate_text fresh ls w
punctuate_text fresh (token t ∷ ls) w = placed fresh t (begins_colon ls) (λ q. punctuate q ls) w.0 (λ q. punctuate_text q ls w.1)
punctuate_text after_value (token t ∷ ls) w = placed after_value t (begins_colon ls) (λ q. punctuate q ls) w.0 (λ q. punctuate_text q ls w.1)
punctuate_text after_comma (token t ∷ ls) w = placed after_comma t (begins_colon ls) (λ q. punctuate q ls) w.0 (λ q. punctuate_text q ls w.1)
punctuate_text after_key (token t ∷ ls) w = placed after_key t (begins_colon ls) (λ q. punctuate q ls) w.0 (λ q. punctuate_text q ls w.1)

pub AreTextTokens-tokens : (text : List ℕ) → IsUtf8 text → AreTextTokens (tokens text)
AreTextTokens-tokens text u = punctuate_text fresh (lex between text) (lex_text between text (IsTail-from_IsUtf8 text u))
