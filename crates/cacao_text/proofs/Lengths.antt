-- Canonical text is no longer than the text that was read.
use Rattle.std.proofs.Common.{◌≡◌, ℕ, zero, suc, ◌+◌, ◌-◌, ◌^◌, ◌<◌, ◌≤◌, List, [], ◌∷◌, ◌++◌, length, take, drop, Bool, true, false, not, ◌&&◌, ◌==◌, nat_lt, nat_le, cond, map, Float, Option, Some, None, Ordering, Less, Equal, Greater, nat_cmp, decimal, refl, sym, ap, subst, ◌∙◌, append_assoc, append-nil, length-append, arith}
use Rattle.std.specs.Prelude.{IfSome, if◌then◌else◌, slice_index, codes}
use Rattle.std.specs.Str.{bytes_eq}
use Rattle.std.specs.Ordering.{match_ordering}
use Rattle.std.specs.Cmp.Lexicographic.{slice_cmp}
use Rattle.std.specs.Char.{is_ascii_digit, digit_value}
use Rattle.std.specs.List.{prefix_len}
use Rattle.std.specs.Str.Parse.{AllDigits, digits_value}
use Rattle.std.specs.Float.{binary64, float_is_finite}
use Rattle.std.proofs.lemmas.Bool.{and_parts, eqb-true, leb-true, ltb-true, not-true}
use Rattle.std.proofs.lemmas.List.{length-take-le}
use Rattle.std.proofs.lemmas.Str.{digit_value_digit}
use Rattle.std.proofs.lemmas.Int.Digits.{digits_value-lt}
use Rattle.std.proofs.lemmas.Fmt.{length-decimal-le}
use Rattle.fast_float.specs.Text.{Parts, scan, digits_of, minus, nearest, with_sign}
use Rattle.json.specs.Token.{Token}
use Rattle.json.specs.Print.{quoted, token_text}
use Rattle.json.specs.Json as json
use Rattle.json.specs.Tree.{json_tokens, items_tokens, members_tokens}
use Rattle.serde_json.specs.Data.{Num, unsigned, negative, float, Data, null, boolean, number, string, array, object, Items, Members, no_members, member, put}
use Rattle.serde_json.specs.Read.{is_integer, float_of, number_from, number_of, of_json, read}
use Rattle.cacao_json.proofs.Spelling.{spelled, comma_if, spelled-tokens}
use Rattle.cacao_json.proofs.Walk.{each_json, tokens-read}
use Rattle.cacao_json.specs.Tree.{without}
use Rattle.cacao_text.specs.Canon.{whole_text, string_text, in_order, after_commas, joined, member_text, canon, item_texts, named_texts, book_text}
use Rattle.cacao_text.proofs.Sorting.{total, total-in_order}
use Rattle.cacao_text.proofs.Escapes.{string_text-quoted}

-- ---- the length of a JSON value written with no space

abbrev mutual
  size : json.Json → ℕ
  size json.null = 4
  size (json.boolean b) = length (token_text (Token.boolean b))
  size (json.number s) = length s
  size (json.string s) = length (quoted s)
  size (json.array js) = 1 + items_size false js
  size (json.object ms) = 1 + members_size false ms

  items_size : Bool → json.Items → ℕ
  items_size later json.no_items = 1
  items_size later (json.item j js) = comma_if later + (size j + items_size true js)

  members_size : Bool → json.Members → ℕ
  members_size later json.no_members = 1
  members_size later (json.member k j ms) = comma_if later + (length (quoted k) + 1 + (size j + members_size true ms))

mutual
  spelled-json : (later : Bool) (j : json.Json) (ts : List Token) → spelled later (json_tokens j ++ ts) ≡ comma_if later + (size j + spelled true ts)
  spelled-json later json.null ts = refl
  spelled-json later (json.boolean b) ts = refl
  spelled-json later (json.number s) ts = refl
  spelled-json later (json.string s) ts = refl
  spelled-json later (json.array js) ts = omega (arith, spelled-items false js ts)
  spelled-json later (json.object ms) ts = omega (arith, spelled-members false ms ts)

  spelled-items : (later : Bool) (js : json.Items) (ts : List Token) → spelled later (items_tokens js ++ ts) ≡ items_size later js + spelled true ts
  spelled-items later json.no_items ts = refl
  spelled-items later (json.item j js) ts = ap (spelled later) (append_assoc (json_tokens j) (items_tokens js) ts) ∙ omega (arith, spelled-json later j (items_tokens js ++ ts), spelled-items true js ts)

  spelled-members : (later : Bool) (ms : json.Members) (ts : List Token) → spelled later (members_tokens ms ++ ts) ≡ members_size later ms + spelled true ts
  spelled-members later json.no_members ts = refl
  spelled-members later (json.member k j ms) ts =
      omega (arith, ap (spelled false) (append_assoc (json_tokens j) (members_tokens ms) ts), spelled-json false j (members_tokens ms ++ ts), spelled-members true ms ts)

spelled-value : (j : json.Json) → spelled false (json_tokens j) ≡ size j
spelled-value j = ap (spelled false) (sym (append-nil (json_tokens j))) ∙ omega (arith, spelled-json false j [])

-- ---- numbers

digit : (x : ℕ) → is_ascii_digit x ≡ true → digit_value x < 10
digit x h =
    let p = and_parts _ _ h in
    omega (arith, digit_value_digit x (leb-true 48 x p.0, leb-true x 57 p.1), leb-true 48 x p.0, leb-true x 57 p.1)

front_by : (b : Bool) (x : ℕ) (xs : List ℕ) (n : ℕ) → (b ≡ true → digit_value x < 10) → AllDigits 10 (take n xs) → AllDigits 10 (take (cond b (1 + n) 0) (x ∷ xs))
front_by false x xs n h w = tt
front_by true x xs n h w = let k : suc n ≡ 1 + n = omega arith in subst (λ m. AllDigits 10 (take m (x ∷ xs))) k (h refl, w)

front : (bs : List ℕ) → AllDigits 10 (take (prefix_len is_ascii_digit bs) bs)
front [] = tt
front (x ∷ xs) = front_by (is_ascii_digit x) x xs (prefix_len is_ascii_digit xs) (digit x) (front xs)

-- a whole number's digits are among its bytes
record HasDigits (bs : List ℕ) (p : Parts) : Type 0 where
  all_digits : AllDigits 10 p.whole
  within : length p.whole ≤ length bs
  fraction : p.point ≡ false → p.fraction ≡ []

no_fraction : (b : Bool) (xs : List ℕ) → b ≡ false → (if b then xs else []) ≡ []
no_fraction true xs e = absurd (cc)
no_fraction false xs e = refl

prefix_by : (b : Bool) (n m : ℕ) → n ≤ m → cond b (1 + n) 0 ≤ suc m
prefix_by true n m h = omega arith
prefix_by false n m h = omega arith

prefix_le : (bs : List ℕ) → prefix_len is_ascii_digit bs ≤ length bs
prefix_le [] = omega arith
prefix_le (x ∷ xs) = prefix_by (is_ascii_digit x) (prefix_len is_ascii_digit xs) (length xs) (prefix_le xs)

has_digits : (bs : List ℕ) → HasDigits bs (scan bs)
unfolding scan
has_digits bs =
    let n = prefix_len is_ascii_digit bs in
    let end : 0 + n - 0 ≡ n = omega arith in
    let few : 0 + n - 0 ≤ length bs = omega (arith, prefix_le bs) in
    let long : length (take (0 + n - 0) bs) ≤ length bs = omega (arith, length-take-le (0 + n - 0) bs few) in
    record {
      all_digits = subst (λ k. AllDigits 10 (take k bs)) (sym end) (front bs);
      within = long;
      fraction = λ e. no_fraction _ _ e;
    }

-- the digits are at least those of the number's decimal
digits_length : (bs : List ℕ) (p : Parts) → HasDigits bs p → is_integer p ≡ true → digits_of p < 2 ^ 64 → length (decimal (digits_of p)) ≤ length bs
digits_length bs p w whole small =
    let q = and_parts (nat_lt 0 (length p.whole) && not p.point) (length p.exponent == 0) whole in
    let r = and_parts (nat_lt 0 (length p.whole)) (not p.point) q.0 in
    let same : digits_of p ≡ digits_value 10 p.whole = ap (λ f. digits_value 10 (p.whole ++ f)) (w.fraction (not-true p.point r.1)) ∙ ap (digits_value 10) (append-nil p.whole) in
    let below : digits_of p < 10 ^ length p.whole = subst (λ n. n < 10 ^ length p.whole) (sym same) (digits_value-lt 10 p.whole w.all_digits) in
    omega (arith, length-decimal-le (length p.whole) (digits_of p) (ltb-true 0 (length p.whole) r.0) below small, w.within)

by_float : (b : Bool) (x : Float) (n : Num) (m : ℕ) → (if b then Some (float x) else None) ≡ Some n → length (whole_text n) ≤ m
by_float true x n m e = let same : float x ≡ n = cc in subst (λ q. length (whole_text q) ≤ m) same (omega arith)
by_float false x n m e = absurd (cc)

by_digits : (b : Bool) (x n : Num) (o : Option Num) (m : ℕ) → (b ≡ true → length (whole_text x) ≤ m) → (o ≡ Some n → length (whole_text n) ≤ m) → (if b then Some x else o) ≡ Some n → length (whole_text n) ≤ m
by_digits true x n o m f g e = let same : x ≡ n = cc in subst (λ q. length (whole_text q) ≤ m) same (f refl)
by_digits false x n o m f g e = g e

unsigned_length : (bs : List ℕ) (n : Num) → number_from false (scan bs) ≡ Some n → length (whole_text n) ≤ length bs
unsigned_length bs n e =
    let p = scan bs in
    by_digits (is_integer p && nat_lt (digits_of p) (2 ^ 64)) (unsigned (digits_of p)) n (float_of false p) (length bs)
    (λ h. (let q = and_parts (is_integer p) (nat_lt (digits_of p) (2 ^ 64)) h in digits_length bs p (has_digits bs) q.0 (ltb-true (digits_of p) (2 ^ 64) q.1)))
    (λ f. by_float (float_is_finite (nearest binary64 false p)) (nearest binary64 false p) n (length bs) f) e

signed : (d : ℕ) → 0 < d → length (whole_text (negative (with_sign true d))) ≡ 1 + length (decimal d)
signed zero h = absurd (omega arith)
signed (suc m) h = omega arith

negative_length : (bs : List ℕ) (n : Num) → number_from true (scan bs) ≡ Some n → length (whole_text n) ≤ 1 + length bs
negative_length bs n e =
    let p = scan bs in
    by_digits (is_integer p && nat_lt 0 (digits_of p) && nat_le (digits_of p) (2 ^ 63)) (negative (with_sign true (digits_of p))) n (float_of true p) (1 + length bs)
    (λ h.
    (let q = and_parts (is_integer p && nat_lt 0 (digits_of p)) (nat_le (digits_of p) (2 ^ 63)) h in
    let r = and_parts (is_integer p) (nat_lt 0 (digits_of p)) q.0 in
    let small : digits_of p < 2 ^ 64 = omega (arith, leb-true (digits_of p) (2 ^ 63) q.1) in
    omega (arith, signed (digits_of p) (ltb-true 0 (digits_of p) r.1), digits_length bs p (has_digits bs) r.0 small)))
    (λ f. by_float (float_is_finite (nearest binary64 true p)) (nearest binary64 true p) n (1 + length bs) f) e

by_sign : (b : Bool) (s : List ℕ) (n : Num) → (b ≡ true → slice_index s 0 ≡ 45) → (if b then number_from true (scan (drop 1 s)) else number_from false (scan s)) ≡ Some n → length (whole_text n) ≤ length s
by_sign true [] n h e = absurd (cc (h refl))
by_sign true (x ∷ xs) n h e = omega (arith, negative_length xs n e)
by_sign false s n h e = unsigned_length s n e

number_length : (s : List ℕ) (n : Num) → number_of s ≡ Some n → length (whole_text n) ≤ length s
unfolding number_of
number_length s n e = by_sign (slice_index s 0 == minus) s n (eqb-true (slice_index s 0) minus) e

-- ---- members

abbrev member_length : List ℕ × List ℕ → ℕ
member_length m = length (member_text m) + 1

-- each member with a comma
abbrev members_length : Members → ℕ
members_length ms = total member_length (named_texts ms)

length-member_text : (m : List ℕ × List ℕ) → length (member_text m) ≡ length (quoted m.0) + (1 + length m.1)
length-member_text m = omega (arith, length-append (string_text m.0) (58 ∷ m.1), ap length (string_text-quoted m.0))

at_most : (f : Members → ℕ) (o : Ordering) (a b c : Members) (n : ℕ) → f a ≤ n → f b ≤ n → f c ≤ n → f (match_ordering o a b c) ≤ n
at_most f Less a b c n x y z = x
at_most f Equal a b c n x y z = y
at_most f Greater a b c n x y z = z

members_length-put : (k : List ℕ) (d : Data) (ms : Members) → members_length (put k d ms) ≤ member_length (k, canon d) + members_length ms
members_length-put k d no_members = omega arith
members_length-put k d (member l e ms) =
    at_most members_length (slice_cmp nat_cmp k l) (member k d (member l e ms)) (member l d ms) (member l e (put k d ms)) (member_length (k, canon d) + members_length (member l e ms))
    (omega arith) (omega (arith, length-member_text (k, canon d), length-member_text (l, canon d), length-member_text (l, canon e))) (omega (arith, members_length-put k d ms))

length-after_commas : (ms : List (List ℕ × List ℕ)) → length (after_commas (map member_text ms)) ≡ total member_length ms
length-after_commas [] = refl
length-after_commas (m ∷ ms) = omega (arith, length-append (member_text m) (after_commas (map member_text ms)), length-after_commas ms)

length-joined : (ms : List (List ℕ × List ℕ)) → length (joined (map member_text ms)) ≡ total member_length ms - 1
length-joined [] = omega arith
length-joined (m ∷ ms) = omega (arith, length-append (member_text m) (after_commas (map member_text ms)), length-after_commas ms)

sizes : (ms : json.Members) → (members_size true ms ≤ 1 + members_size false ms) × (1 ≤ members_size false ms)
sizes json.no_members = (omega arith, omega arith)
sizes (json.member k j ms) = (omega arith, omega arith)

-- ---- what is read

record Shorter (j : json.Json) (d : Data) : Type 0 where
  le : length (canon d) ≤ size j

record ItemsShorter (js : json.Items) (ds : Items) : Type 0 where
  more : length (after_commas (item_texts ds)) + 1 ≤ items_size true js
  all : length (joined (item_texts ds)) + 1 ≤ items_size false js

record MembersShorter (ms : json.Members) (found ds : Members) : Type 0 where
  le : members_length ds + 1 ≤ members_length found + members_size true ms

object_length : (ms : json.Members) (ds : Members) → members_length ds + 1 ≤ members_size true ms → length (canon (object ds)) ≤ 1 + members_size false ms
object_length ms ds h =
    let texts = in_order (λ m. m.0) (named_texts ds) in
    omega (arith, sizes ms, h, length-append (joined (map member_text texts)) (125 ∷ []), length-joined texts, total-in_order member_length (λ m. m.0) (named_texts ds))

boolean_length : (b : Bool) → length (canon (boolean b)) ≤ length (token_text (Token.boolean b))
boolean_length true = omega arith
boolean_length false = omega arith

shorter : (j : json.Json) → IfSome (of_json j) (Shorter j)
shorter = each_json Shorter ItemsShorter MembersShorter (record { le = omega arith }) (λ b. record { le = boolean_length b }) (λ s n e. record { le = number_length s n e })
    (λ s. record { le = omega (arith, ap length (string_text-quoted s)) }) (λ js ds w. record { le = omega (arith, w.all, length-append (joined (item_texts ds)) (93 ∷ [])) })
    (λ ms ds w. record { le = object_length ms ds (omega (arith, w.le)) }) (record { more = omega arith; all = omega arith })
    (λ j d js ds w v. record {
      more = omega (arith, w.le, v.more, length-append (canon d) (after_commas (item_texts ds)));
      all = omega (arith, w.le, v.more, length-append (canon d) (after_commas (item_texts ds)));
    }) (λ found. record { le = omega arith })
    (λ k j d ms found ds w v. record { le = omega (arith, w.le, v.le, members_length-put k d found, length-member_text (k, canon d)) })

pub length-canon-read : (text : List ℕ) (d : Data) → read text ≡ Some d → length (canon d) ≤ length text
length-canon-read text d e =
    let w = tokens-read text d e in
    let s = subst (λ o. IfSome o (Shorter w.0)) w.2 (shorter w.0) in
    omega (arith, s.le, spelled-value w.0, ap (spelled false) w.1, spelled-tokens text)

-- ---- books

object_is : (ds : Members) → length (canon (object ds)) ≡ 2 + (members_length ds - 1)
object_is ds =
    let texts = in_order (λ m. m.0) (named_texts ds) in
    omega (arith, length-append (joined (map member_text texts)) (125 ∷ []), length-joined texts, total-in_order member_length (λ m. m.0) (named_texts ds))

fewer_if : (b : Bool) (k : List ℕ) (d : Data) (ms : Members) (n : ℕ) → members_length ms ≤ n → members_length (member k d ms) ≤ n → members_length (if b then ms else member k d ms) ≤ n
fewer_if true k d ms n v w = v
fewer_if false k d ms n v w = w

fewer : (name : List ℕ) (ms : Members) → members_length (without name ms) ≤ members_length ms
fewer name no_members = omega arith
fewer name (member k d ms) =
    let rest = fewer name ms in
    fewer_if (bytes_eq name k) k d (without name ms) (members_length (member k d ms)) (omega (arith, rest)) (omega (arith, rest))

pub length-book_text : (d : Data) → length (book_text d) ≤ length (canon d)
length-book_text null = omega arith
length-book_text (boolean b) = omega arith
length-book_text (number n) = omega arith
length-book_text (string s) = omega arith
length-book_text (array ds) = omega arith
length-book_text (object ms) = omega (arith, object_is (without (codes "signatures") ms), object_is ms, fewer (codes "signatures") ms)
