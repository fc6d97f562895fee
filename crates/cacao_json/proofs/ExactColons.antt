-- A text whose tokens are good has no more colons outside strings than keys.
use Rattle.std.proofs.Common.{◌≡◌, ℕ, ◌+◌, List, [], ◌∷◌, ◌++◌, Bool, true, false, ◌||◌, ◌==◌, cond, refl, sym, ap, subst, ◌∙◌, arith}
use Rattle.std.proofs.lemmas.Bool.{eqb-true}
use Rattle.json.specs.Token.{Token}
use Rattle.json.specs.Text.{content, plain}
use Rattle.json.specs.Word.{is_operator, is_space, word}
use Rattle.json.specs.Lex.{Lexeme, token, comma, colon, Class, quote, backslash, operator, space, other, operator_lexeme, string_token, Mode, between, in_word, in_string, in_escape, lex_byte, lex, Place, fresh, after_value, after_comma, after_key, begins_colon, punctuate, place_token, if_allowed, may_begin, may_close, tokens}
use Rattle.json.specs.Json as json
use Rattle.json.specs.Tree.{json_tokens, items_tokens, members_tokens}
use Rattle.cacao_json_counts.specs.Counts.{Position, Outside, Inside, Escaped, colons_from, colons}
use Rattle.cacao_json.specs.Straight.{keys_in}
use Rattle.cacao_json.proofs.Words.{is_good, is_safe, safe_byte, is_word-word}
use Rattle.cacao_json.proofs.Keys.{colons_in, if_good, owed}

abbrev AreGood : List Token → Type 0
AreGood [] = Unit {0}
AreGood (t ∷ ts) = (is_good t ≡ true) × AreGood ts

abbrev AreGoodLexemes : List Lexeme → Type 0
AreGoodLexemes [] = Unit {0}
AreGoodLexemes (token t ∷ ls) = (is_good t ≡ true) × AreGoodLexemes ls
AreGoodLexemes (comma ∷ ls) = AreGoodLexemes ls
AreGoodLexemes (colon ∷ ls) = AreGoodLexemes ls

-- ---- the tokens of a value are good

good_append : (ts us : List Token) → AreGood ts → AreGood us → AreGood (ts ++ us)
good_append [] us h w = w
good_append (t ∷ ts) us h w = (h.0, good_append ts us h.1 w)

mutual
  good_json : (j : json.Json) → AreGood (json_tokens j)
  good_json json.null = (refl, tt)
  good_json (json.boolean b) = (refl, tt)
  good_json (json.number s) = (refl, tt)
  good_json (json.string s) = (refl, tt)
  good_json (json.array js) = (refl, good_items js)
  good_json (json.object ms) = (refl, good_members ms)

  good_items : (js : json.Items) → AreGood (items_tokens js)
  good_items json.no_items = (refl, tt)
  good_items (json.item j js) = good_append (json_tokens j) (items_tokens js) (good_json j) (good_items js)

  good_members : (ms : json.Members) → AreGood (members_tokens ms)
  good_members json.no_members = (refl, tt)
  good_members (json.member k j ms) = (refl, good_append (json_tokens j) (members_tokens ms) (good_json j) (good_members ms))

-- ---- a key for each colon

-- what is said of the lexemes that go on at a place
record Exact (p : Place) (ls : List Lexeme) : Type 0 where
  gives : AreGood (punctuate p ls) → (keys_in (punctuate p ls) + owed p (begins_colon ls) ≡ colons_in ls) × AreGoodLexemes ls

allowed : (b : Bool) (t : Token) (k : Place → List Token) (next : Place) → AreGood (if_allowed b t k next) → (is_good t ≡ true) × AreGood (k next) × (keys_in (if_allowed b t k next) ≡ keys_in (t ∷ k next))
allowed true t k next g = (g.0, g.1, refl)
allowed false t k next g = absurd (cc (g.0))

good_is : (b : Bool) (n : ℕ) → b ≡ true → if_good b n ≡ n
good_is true n e = refl
good_is false n e = absurd (cc)

placed : (p : Place) (t : Token) (b : Bool) (ls : List Lexeme) → b ≡ begins_colon ls → ((q : Place) → Exact q ls) → AreGood (place_token p t b (λ q. punctuate q ls))
    → (keys_in (place_token p t b (λ q. punctuate q ls)) ≡ colons_in (token t ∷ ls)) × AreGoodLexemes (token t ∷ ls)
placed p Token.begin_object b ls e h g = let a = allowed (may_begin p) Token.begin_object (λ q. punctuate q ls) fresh g in let w = (h fresh).gives a.1 in (omega (arith, a.2, w.0), (refl, w.1))
placed p Token.end_object b ls e h g = let a = allowed (may_close p) Token.end_object (λ q. punctuate q ls) after_value g in let w = (h after_value).gives a.1 in (omega (arith, a.2, w.0), (refl, w.1))
placed p Token.begin_array b ls e h g = let a = allowed (may_begin p) Token.begin_array (λ q. punctuate q ls) fresh g in let w = (h fresh).gives a.1 in (omega (arith, a.2, w.0), (refl, w.1))
placed p Token.end_array b ls e h g = let a = allowed (may_close p) Token.end_array (λ q. punctuate q ls) after_value g in let w = (h after_value).gives a.1 in (omega (arith, a.2, w.0), (refl, w.1))
placed p (Token.key s) b ls e h g = absurd (cc (g.0))
placed p (Token.string s) true ls e h g =
    let a = allowed (may_begin p) (Token.key s) (λ q. punctuate q ls) after_key g in
    let w = (h after_key).gives a.1 in
    (omega (arith, a.2, w.0, ap (owed after_key) e), (refl, w.1))
placed p (Token.string s) false ls e h g = let a = allowed (may_begin p) (Token.string s) (λ q. punctuate q ls) after_value g in let w = (h after_value).gives a.1 in (omega (arith, a.2, w.0), (refl, w.1))
placed p (Token.number s) b ls e h g = let a = allowed (may_begin p) (Token.number s) (λ q. punctuate q ls) after_value g in let w = (h after_value).gives a.1 in (omega (arith, a.2, w.0), (refl, w.1))
placed p (Token.boolean x) b ls e h g = let a = allowed (may_begin p) (Token.boolean x) (λ q. punctuate q ls) after_value g in let w = (h after_value).gives a.1 in (omega (arith, a.2, w.0), (refl, w.1))
placed p Token.null b ls e h g = let a = allowed (may_begin p) Token.null (λ q. punctuate q ls) after_value g in let w = (h after_value).gives a.1 in (omega (arith, a.2, w.0), (refl, w.1))
placed p Token.bad b ls e h g = absurd (cc (g.0))

exact : (p : Place) (ls : List Lexeme) → Exact p ls
unfolding punctuate
exact fresh [] = record { gives = λ g. (refl, tt) }
exact after_value [] = record { gives = λ g. (refl, tt) }
exact after_comma [] = record { gives = λ g. absurd (cc (g.0)) }
exact after_key [] = record { gives = λ g. absurd (cc (g.0)) }
exact fresh (comma ∷ ls) = record { gives = λ g. absurd (cc (g.0)) }
exact after_value (comma ∷ ls) = record { gives = λ g. (let w = (exact after_comma ls).gives g in (omega (arith, w.0), w.1)) }
exact after_comma (comma ∷ ls) = record { gives = λ g. absurd (cc (g.0)) }
exact after_key (comma ∷ ls) = record { gives = λ g. absurd (cc (g.0)) }
exact fresh (colon ∷ ls) = record { gives = λ g. absurd (cc (g.0)) }
exact after_value (colon ∷ ls) = record { gives = λ g. absurd (cc (g.0)) }
exact after_comma (colon ∷ ls) = record { gives = λ g. absurd (cc (g.0)) }
exact after_key (colon ∷ ls) = record { gives = λ g. (let w = (exact fresh ls).gives g in (omega (arith, w.0), w.1)) }
exact fresh (token t ∷ ls) = record { gives = λ g. (let w = placed fresh t (begins_colon ls) ls refl (λ q. exact q ls) g in (omega (arith, w.0), w.1)) }
exact after_value (token t ∷ ls) = record { gives = λ g. (let w = placed after_value t (begins_colon ls) ls refl (λ q. exact q ls) g in (omega (arith, w.0), w.1)) }
exact after_comma (token t ∷ ls) = record { gives = λ g. (let w = placed after_comma t (begins_colon ls) ls refl (λ q. exact q ls) g in (omega (arith, w.0), w.1)) }
exact after_key (token t ∷ ls) = record { gives = λ g. (let w = placed after_key t (begins_colon ls) ls refl (λ q. exact q ls) g in (omega (arith, w.0), w.1)) }

-- ---- a lexeme for each colon

plus_none : (n : ℕ) → n ≡ 0 + n
plus_none n = omega arith

abbrev classified : Bool → Bool → Bool → Bool → Class
classified q b o s = cond q quote (cond b backslash (cond o operator (cond s space other)))

-- 58 is a colon, and what is none of these marks is no colon
no_mark : (a b c d k m : Bool) → (a || b || c || d || k || m) ≡ false → k ≡ false
no_mark false false false false false false h = refl
no_mark true b c d k m h = absurd (cc)
no_mark false true c d k m h = absurd (cc)
no_mark false false true d k m h = absurd (cc)
no_mark false false false true k m h = absurd (cc)
no_mark false false false false true m h = absurd (cc)
no_mark false false false false false true h = absurd (cc)

one_mark : (a b c d m : Bool) (ls : List Lexeme) → (a || b || c || d || false || m) ≡ true → AreGoodLexemes (cond a (token Token.begin_object) (cond b (token Token.end_object) (cond c (token Token.begin_array) (cond d (token Token.end_array) (cond m comma colon)))) ∷ ls)
    → (colons_in (cond a (token Token.begin_object) (cond b (token Token.end_object) (cond c (token Token.begin_array) (cond d (token Token.end_array) (cond m comma colon)))) ∷ ls) ≡ colons_in ls) × AreGoodLexemes ls
one_mark true b c d m ls h g = (refl, g.1)
one_mark false true c d m ls h g = (refl, g.1)
one_mark false false true d m ls h g = (refl, g.1)
one_mark false false false true m ls h g = (refl, g.1)
one_mark false false false false true ls h g = (refl, g)
one_mark false false false false false ls h g = absurd (cc)

-- what an operator is, where it is a colon or not
mark_by : (x : ℕ) (ls : List Lexeme) (k : Bool) → (x == 58) ≡ k → is_operator x ≡ true → AreGoodLexemes (operator_lexeme x ∷ ls) → (colons_in (operator_lexeme x ∷ ls) ≡ cond k 1 0 + colons_in ls) × AreGoodLexemes ls
mark_by x ls true e o g =
    let is : x ≡ 58 = eqb-true x 58 e in
    let w : AreGoodLexemes (operator_lexeme 58 ∷ ls) = subst (λ y. AreGoodLexemes (operator_lexeme y ∷ ls)) is g in
    (ap (λ y. colons_in (operator_lexeme y ∷ ls)) is, w)
mark_by x ls false e o g =
    let m = one_mark (x == 123) (x == 125) (x == 91) (x == 93) (x == 44) ls (sym (ap (λ k. (x == 123) || (x == 125) || (x == 91) || (x == 93) || k || (x == 44)) e) ∙ o) g in
    (m.0 ∙ plus_none (colons_in ls), m.1)

abbrev IfInWord : Mode → Bool → Type 0
IfInWord between b = Unit {0}
IfInWord in_word b = b ≡ true
IfInWord in_string b = Unit {0}
IfInWord in_escape b = Unit {0}

abbrev place_of : Mode → Position
place_of between = Outside
place_of in_word = Outside
place_of in_string = Inside
place_of in_escape = Escaped

module _ (x : ℕ) (xs : List ℕ) (k : Mode → List Lexeme) (rest : (n : Mode) → IfInWord n (is_safe xs) → AreGoodLexemes (k n) → colons_in (k n) ≡ colons_from (place_of n) xs)
    (mark : is_operator x ≡ true → (ls : List Lexeme) → AreGoodLexemes (operator_lexeme x ∷ ls) → (colons_in (operator_lexeme x ∷ ls) ≡ cond (x == 58) 1 0 + colons_in ls) × AreGoodLexemes ls) where
  outside : (q b o s : Bool) → o ≡ is_operator x → (q ≡ true → (x == 58) ≡ false) → (o ≡ false → (x == 58) ≡ false)
      → (is_good (word (x ∷ xs)) ≡ true → safe_byte (classified q b o s) (is_safe xs) ≡ true) → AreGoodLexemes (lex_byte between (classified q b o s) x xs k)
      → colons_in (lex_byte between (classified q b o s) x xs k) ≡ cond (x == 58) 1 0 + colons_from (cond q Inside Outside) xs
  outside true b o s e hq ho safe g = good_is (is_good (string_token (content plain xs))) _ g.0 ∙ rest in_string tt g.1 ∙ plus_none (colons_from Inside xs) ∙ ap (λ n. cond n 1 0 + colons_from Inside xs) (sym (hq refl))
  outside false true o s e hq ho safe g = absurd (cc (g.0))
  outside false false true s e hq ho safe g = let m = mark (sym e) (k between) g in m.0 ∙ ap (λ n. cond (x == 58) 1 0 + n) (rest between tt m.1)
  outside false false false true e hq ho safe g = rest between tt g ∙ plus_none (colons_from Outside xs) ∙ ap (λ n. cond n 1 0 + colons_from Outside xs) (sym (ho refl))
  outside false false false false e hq ho safe g = good_is (is_good (word (x ∷ xs))) _ g.0 ∙ rest in_word (safe g.0) g.1 ∙ plus_none (colons_from Outside xs) ∙ ap (λ n. cond n 1 0 + colons_from Outside xs) (sym (ho refl))

  within_word : (q b o s : Bool) → o ≡ is_operator x → (o ≡ false → (x == 58) ≡ false) → safe_byte (classified q b o s) (is_safe xs) ≡ true → AreGoodLexemes (lex_byte in_word (classified q b o s) x xs k)
      → colons_in (lex_byte in_word (classified q b o s) x xs k) ≡ cond (x == 58) 1 0 + colons_from (cond q Inside Outside) xs
  within_word true b o s e ho safe g = absurd (cc)
  within_word false true o s e ho safe g = absurd (cc)
  within_word false false true s e ho safe g = let m = mark (sym e) (k between) g in m.0 ∙ ap (λ n. cond (x == 58) 1 0 + n) (rest between tt m.1)
  within_word false false false true e ho safe g = rest between tt g ∙ plus_none (colons_from Outside xs) ∙ ap (λ n. cond n 1 0 + colons_from Outside xs) (sym (ho refl))
  within_word false false false false e ho safe g = rest in_word safe g ∙ plus_none (colons_from Outside xs) ∙ ap (λ n. cond n 1 0 + colons_from Outside xs) (sym (ho refl))

  within_string : (q b o s : Bool) → AreGoodLexemes (lex_byte in_string (classified q b o s) x xs k) → colons_in (lex_byte in_string (classified q b o s) x xs k) ≡ colons_from (cond q Outside (cond b Escaped Inside)) xs
  within_string true b o s g = rest between tt g
  within_string false true o s g = rest in_escape tt g
  within_string false false true s g = rest in_string tt g
  within_string false false false true g = rest in_string tt g
  within_string false false false false g = rest in_string tt g

quote_no_colon : (x : ℕ) → (x == 34) ≡ true → (x == 58) ≡ false
quote_no_colon x e = let is : x ≡ 34 = eqb-true x 34 e in ap (λ y. y == 58) is

exact-lex : (m : Mode) (xs : List ℕ) → IfInWord m (is_safe xs) → AreGoodLexemes (lex m xs) → colons_in (lex m xs) ≡ colons_from (place_of m) xs
unfolding lex
exact-lex between [] h g = refl
exact-lex in_word [] h g = refl
exact-lex in_string [] h g = refl
exact-lex in_escape [] h g = refl
exact-lex between (x ∷ xs) h g =
    outside x xs (λ n. lex n xs) (λ n i w. exact-lex n xs i w) (λ o ls w. mark_by x ls (x == 58) refl o w) (x == 34) (x == 92) (is_operator x) (is_space x) refl (quote_no_colon x)
    (no_mark (x == 123) (x == 125) (x == 91) (x == 93) (x == 58) (x == 44)) (λ i. (is_word-word (x ∷ xs) i).0) g
exact-lex in_word (x ∷ xs) h g =
    within_word x xs (λ n. lex n xs) (λ n i w. exact-lex n xs i w) (λ o ls w. mark_by x ls (x == 58) refl o w) (x == 34) (x == 92) (is_operator x) (is_space x) refl
    (no_mark (x == 123) (x == 125) (x == 91) (x == 93) (x == 58) (x == 44)) h g
exact-lex in_string (x ∷ xs) h g = within_string x xs (λ n. lex n xs) (λ n i w. exact-lex n xs i w) (λ o ls w. mark_by x ls (x == 58) refl o w) (x == 34) (x == 92) (is_operator x) (is_space x) g ∙ plus_none _
exact-lex in_escape (x ∷ xs) h g = exact-lex in_string xs tt g ∙ plus_none _

-- a text whose tokens are those of a value has a colon outside strings for each key
pub colons-keys : (text : List ℕ) (j : json.Json) → tokens text ≡ json_tokens j → colons text ≡ keys_in (tokens text)
colons-keys text j e =
    let good : AreGood (punctuate fresh (lex between text)) = subst AreGood (sym e) (good_json j) in
    let w = (exact fresh (lex between text)).gives good in
    sym (exact-lex between text tt w.1) ∙ omega (arith, w.0)
