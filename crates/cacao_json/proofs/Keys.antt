-- A text has a colon for each key among its tokens.
use Rattle.std.proofs.Common.{◌≡◌, ℕ, ◌+◌, ◌≤◌, List, [], ◌∷◌, ◌++◌, length, Bool, true, false, arith}
use Rattle.json.specs.Token.{Token}
use Rattle.json.specs.Lex.{Lexeme, token, comma, colon, Place, fresh, after_value, after_comma, after_key, begins_colon, punctuate, place_token, if_allowed, may_begin, may_close}
use Rattle.cacao_json.specs.Straight.{keys_in}
use Rattle.cacao_json.proofs.Words.{is_good}

pub keys_in-append : (ts us : List Token) → keys_in (ts ++ us) ≡ keys_in ts + keys_in us
keys_in-append [] us = omega arith
keys_in-append (Token.begin_object ∷ ts) us = keys_in-append ts us
keys_in-append (Token.end_object ∷ ts) us = keys_in-append ts us
keys_in-append (Token.begin_array ∷ ts) us = keys_in-append ts us
keys_in-append (Token.end_array ∷ ts) us = keys_in-append ts us
keys_in-append (Token.key s ∷ ts) us = omega (arith, keys_in-append ts us)
keys_in-append (Token.string s ∷ ts) us = keys_in-append ts us
keys_in-append (Token.number s ∷ ts) us = keys_in-append ts us
keys_in-append (Token.boolean b ∷ ts) us = keys_in-append ts us
keys_in-append (Token.null ∷ ts) us = keys_in-append ts us
keys_in-append (Token.bad ∷ ts) us = keys_in-append ts us

-- n, unless the token is bad
abbrev pub if_good : Bool → ℕ → ℕ
if_good true n = n
if_good false n = 0

-- the colons among the lexemes before the first bad token
abbrev pub colons_in : List Lexeme → ℕ
colons_in [] = 0
colons_in (token t ∷ ls) = if_good (is_good t) (colons_in ls)
colons_in (comma ∷ ls) = colons_in ls
colons_in (colon ∷ ls) = 1 + colons_in ls

-- 1 where a key is owed its colon
abbrev pub owed : Place → Bool → ℕ
owed after_key true = 1
owed after_key false = 0
owed fresh b = 0
owed after_value b = 0
owed after_comma b = 0

allowed : (b : Bool) (t : Token) (k : Place → List Token) (next : Place) (n : ℕ) → keys_in (t ∷ k next) ≤ n → keys_in (if_allowed b t k next) ≤ n
allowed true t k next n h = h
allowed false t k next n h = omega arith

placed : (p : Place) (t : Token) (b : Bool) → (ls : List Lexeme) → keys_in (punctuate fresh ls) ≤ colons_in ls → keys_in (punctuate after_value ls) ≤ colons_in ls → keys_in (punctuate after_key ls) + owed after_key b ≤ colons_in ls
    → keys_in (place_token p t b (λ q. punctuate q ls)) ≤ colons_in (token t ∷ ls)
placed p Token.begin_object b ls f v w = allowed (may_begin p) _ (λ q. punctuate q ls) fresh (colons_in ls) (omega (arith, f))
placed p Token.end_object b ls f v w = allowed (may_close p) _ (λ q. punctuate q ls) after_value (colons_in ls) (omega (arith, v))
placed p Token.begin_array b ls f v w = allowed (may_begin p) _ (λ q. punctuate q ls) fresh (colons_in ls) (omega (arith, f))
placed p Token.end_array b ls f v w = allowed (may_close p) _ (λ q. punctuate q ls) after_value (colons_in ls) (omega (arith, v))
placed p (Token.key s) b ls f v w = omega arith
placed p (Token.string s) true ls f v w = allowed (may_begin p) _ (λ q. punctuate q ls) after_key (colons_in ls) (omega (arith, w))
placed p (Token.string s) false ls f v w = allowed (may_begin p) _ (λ q. punctuate q ls) after_value (colons_in ls) (omega (arith, v))
placed p (Token.number s) b ls f v w = allowed (may_begin p) _ (λ q. punctuate q ls) after_value (colons_in ls) (omega (arith, v))
placed p (Token.boolean b') b ls f v w = allowed (may_begin p) _ (λ q. punctuate q ls) after_value (colons_in ls) (omega (arith, v))
placed p Token.null b ls f v w = allowed (may_begin p) _ (λ q. punctuate q ls) after_value (colons_in ls) (omega (arith, v))
placed p Token.bad b ls f v w = omega arith

pub keys_in-punctuate : (p : Place) (ls : List Lexeme) → keys_in (punctuate p ls) + owed p (begins_colon ls) ≤ colons_in ls
unfolding punctuate
keys_in-punctuate fresh [] = omega arith
keys_in-punctuate after_value [] = omega arith
keys_in-punctuate after_comma [] = omega arith
keys_in-punctuate after_key [] = omega arith
keys_in-punctuate fresh (comma ∷ ls) = omega arith
keys_in-punctuate after_value (comma ∷ ls) = keys_in-punctuate after_comma ls
keys_in-punctuate after_comma (comma ∷ ls) = omega arith
keys_in-punctuate after_key (comma ∷ ls) = omega arith
keys_in-punctuate fresh (colon ∷ ls) = omega arith
keys_in-punctuate after_value (colon ∷ ls) = omega arith
keys_in-punctuate after_comma (colon ∷ ls) = omega arith
keys_in-punctuate after_key (colon ∷ ls) = omega (arith, keys_in-punctuate fresh ls)
keys_in-punctuate fresh (token t ∷ ls) = omega (arith, placed fresh t (begins_colon ls) ls (omega (arith, keys_in-punctuate fresh ls)) (omega (arith, keys_in-punctuate after_value ls)) (keys_in-punctuate after_key ls))
keys_in-punctuate after_value (token t ∷ ls) = omega (arith, placed after_value t (begins_colon ls) ls (omega (arith, keys_in-punctuate fresh ls)) (omega (arith, keys_in-punctuate after_value ls)) (keys_in-punctuate after_key ls))
keys_in-punctuate after_comma (token t ∷ ls) = omega (arith, placed after_comma t (begins_colon ls) ls (omega (arith, keys_in-punctuate fresh ls)) (omega (arith, keys_in-punctuate after_value ls)) (keys_in-punctuate after_key ls))
keys_in-punctuate after_key (token t ∷ ls) = omega (arith, placed after_key t (begins_colon ls) ls (omega (arith, keys_in-punctuate fresh ls)) (omega (arith, keys_in-punctuate after_value ls)) (keys_in-punctuate after_key ls))

-- ---- a lexeme gives at most one token

one_token : (b : Bool) (t : Token) (k : Place → List Token) (next : Place) (n : ℕ) → length (k next) ≤ n → length (if_allowed b t k next) ≤ n + 1
one_token true t k next n h = omega arith
one_token false t k next n h = omega arith

each_place : (p : Place) (t : Token) (b : Bool) (k : Place → List Token) (n : ℕ) → ((q : Place) → length (k q) ≤ n) → length (place_token p t b k) ≤ n + 1
each_place p Token.begin_object b k n h = one_token (may_begin p) _ k fresh n (h fresh)
each_place p Token.end_object b k n h = one_token (may_close p) _ k after_value n (h after_value)
each_place p Token.begin_array b k n h = one_token (may_begin p) _ k fresh n (h fresh)
each_place p Token.end_array b k n h = one_token (may_close p) _ k after_value n (h after_value)
each_place p (Token.key s) b k n h = omega arith
each_place p (Token.string s) true k n h = one_token (may_begin p) _ k after_key n (h after_key)
each_place p (Token.string s) false k n h = one_token (may_begin p) _ k after_value n (h after_value)
each_place p (Token.number s) b k n h = one_token (may_begin p) _ k after_value n (h after_value)
each_place p (Token.boolean b') b k n h = one_token (may_begin p) _ k after_value n (h after_value)
each_place p Token.null b k n h = one_token (may_begin p) _ k after_value n (h after_value)
each_place p Token.bad b k n h = omega arith

pub length-punctuate : (p : Place) (ls : List Lexeme) → length (punctuate p ls) ≤ length ls + 1
unfolding punctuate
length-punctuate fresh [] = omega arith
length-punctuate after_value [] = omega arith
length-punctuate after_comma [] = omega arith
length-punctuate after_key [] = omega arith
length-punctuate fresh (comma ∷ ls) = omega arith
length-punctuate after_value (comma ∷ ls) = omega (arith, length-punctuate after_comma ls)
length-punctuate after_comma (comma ∷ ls) = omega arith
length-punctuate after_key (comma ∷ ls) = omega arith
length-punctuate fresh (colon ∷ ls) = omega arith
length-punctuate after_value (colon ∷ ls) = omega arith
length-punctuate after_comma (colon ∷ ls) = omega arith
length-punctuate after_key (colon ∷ ls) = omega (arith, length-punctuate fresh ls)
length-punctuate fresh (token t ∷ ls) = omega (arith, each_place fresh t (begins_colon ls) (λ q. punctuate q ls) (length ls + 1) (λ q. length-punctuate q ls))
length-punctuate after_value (token t ∷ ls) = omega (arith, each_place after_value t (begins_colon ls) (λ q. punctuate q ls) (length ls + 1) (λ q. length-punctuate q ls))
length-punctuate after_comma (token t ∷ ls) = omega (arith, each_place after_comma t (begins_colon ls) (λ q. punctuate q ls) (length ls + 1) (λ q. length-punctuate q ls))
length-punctuate after_key (token t ∷ ls) = omega (arith, each_place after_key t (begins_colon ls) (λ q. punctuate q ls) (length ls + 1) (λ q. length-punctuate q ls))
