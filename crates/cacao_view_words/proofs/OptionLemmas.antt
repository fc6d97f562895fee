-- What the words behind `preflight` are read as, word by word.
use Rattle.std.proofs.Common.{◌≡◌, ◌∙◌, refl, sym, ap, subst, arith, ℕ, suc, ◌+◌, ◌<◌, ◌≤◌, nat_lt, Bool, true, false, not, cond, ◌&&◌, ◌||◌, ◌==◌, List, [], ◌∷◌, ◌++◌, length, ◌-◌, String, Global, string_bytes, map, take, drop, drop-cons, get_or, append_assoc, append-nil, Option, Some, None, codes}
use Rattle.std.specs.Prelude.{option_and_then, if◌then◌else◌}
use Rattle.std.specs.List.{after_first, before_first, list_all, position, position_or_len}
use Rattle.std.specs.Str.{bytes_eq}
use Rattle.std.proofs.lemmas.List.{drop_all, map-append, take_all, take_more, take_rest}
use Rattle.std.proofs.lemmas.List.Sums.{passes_at_first, prefix_len-le-length}
use Rattle.std.proofs.lemmas.Slice.Eq.{bytes_eq-Decides}
use Rattle.std.proofs.lemmas.List.Folds.{list_all-append}
use Rattle.cacao_cli_words.specs.Words.{State, Reading, after_option, after_word, at, before_dashes, begins_hyphen, behind_dashes, behind_option, dashes, fits, has_equals, if_fits, is_known, next, option_in, read_from, with_name}
use Rattle.cacao_view_words.specs.Texts.{Text}
use Rattle.cacao_view_words.specs.Options.{asks_at, asks_from, option_asks, reading}
use Rattle.cacao_view_words.specs.Requests.{Request, explain_asks, explain_books_asks, lacks, preflight_of, preflights}
use Rattle.cacao_view_words.specs.declared.wanted.Wanted.TheVariants as want

-- ---- one option

abbrev is_equals : ℕ → Bool
is_equals c = c == 61

no_equals_from : (c : ℕ) (cs : Text) (b : Bool) → (position_or_len is_equals cs ≡ length cs → has_equals cs ≡ false) → cond (not b) (1 + position_or_len is_equals cs) 0 ≡ length (c ∷ cs) → (b || has_equals cs) ≡ false
no_equals_from c cs true rest k = absurd (omega (arith, k))
no_equals_from c cs false rest k = rest (omega (arith, k))

no_equals : (text : Text) → position_or_len is_equals text ≡ length text → has_equals text ≡ false
no_equals [] e = refl
no_equals (c ∷ cs) e = no_equals_from c cs (c == 61) (no_equals cs) e

-- a text without `=` is the name of an option without a value
pub named-alone : (text : Text) → position_or_len (λ c. c == 61) text ≡ length text
    → ◌≡◌ {A = Text × Option Text} (text, None) (before_first (λ c. c == 61) text, if has_equals text then Some (after_first (λ c. c == 61) text) else None)
named-alone text e =
    let name : text ≡ before_first is_equals text = sym (take_all (position_or_len is_equals text) text (omega (arith, e))) in
    let value : None ≡ (if has_equals text then Some (after_first is_equals text) else None) = ap (λ b. if b then Some (after_first is_equals text) else None) (sym (no_equals text e)) in
    ap {B = Text × Option Text} (λ (x : Text). (x, None)) name ∙ ap {B = Text × Option Text} (λ (y : Option Text). (before_first is_equals text, y)) value

-- ---- names before an option

some-from : (n k : ℕ) (b : Bool) → Some k ≡ cond b (Some n) None → k ≡ n
some-from n k true f = cc
some-from n k false f = absurd (cc)

drop-cons-at : {X : Type 0} (xs : List X) (i : ℕ) (x : X) → i < length xs → x ≡ get_or xs i x → drop i xs ≡ x ∷ drop (i + 1) xs
drop-cons-at xs i x lt at_i = let here : drop i xs ≡ get_or xs i x ∷ drop (i + 1) xs = grind (arith, drop-cons) in here ∙ ap (λ y. y ∷ drop (i + 1) xs) (sym at_i)

pub count-some : (n len k : ℕ) → Some k ≡ cond (nat_lt n len) (Some n) None → k ≡ n
count-some n len k e = some-from n k (nat_lt n len) e

pub count-none : (n len : ℕ) → n ≤ len → (b : Bool) → b ≡ nat_lt n len → None ≡ cond b (Some n) None → len ≡ n
count-none n len le true e f = absurd (cc)
count-none n len le false e f = grind arith

abbrev known : List Text
known = codes "bind" ∷ []

no-dashes : (word : Text) → begins_hyphen word ≡ false → bytes_eq word dashes ≡ false
no-dashes [] e = refl
no-dashes (a ∷ cs) e = rw e refl

no-option : (word : Text) → begins_hyphen word ≡ false → option_in word ≡ None
no-option [] e = refl
no-option (a ∷ []) e = refl
no-option (a ∷ b ∷ []) e = refl
no-option (a ∷ b ∷ c ∷ cs) e = rw e refl

plain-next : (r : Reading) (word : Text) → begins_hyphen word ≡ false → next known r before_dashes word ≡ Some (at (with_name word r) before_dashes)
plain-next r word e =
    ap (λ b. if b then Some (at r behind_dashes) else after_word known r word (option_in word)) (no-dashes word e) ∙ ap (after_word known r word) (no-option word e)
    ∙ ap (λ b. if b then None else Some (at (with_name word r) before_dashes)) e

with-name : (bind : Option Text) (names : List Text) (word : Text) → with_name word (reading bind names) ≡ reading bind (names ++ word ∷ [])
with-name None names word = refl
with-name (Some value) names word = refl

module _ {X : Type 0} (f : X → Text) (bind : Option Text) where
  abbrev is_option : X → Bool
  is_option x = begins_hyphen (f x)

  abbrev Walks : List Text → List X → ℕ → Type 0
  Walks names words n = read_from known (reading bind names) before_dashes (map f words) ≡ read_from known (reading bind (names ++ map f (take n words))) before_dashes (map f (drop n words))

  one-walk : (names : List Text) (x : X) (xs : List X) (n : ℕ) → is_option x ≡ false → Walks (names ++ f x ∷ []) xs n → Walks names (x ∷ xs) (suc n)
  unfolding read_from
  one-walk names x xs n e rest =
      ap (option_and_then (λ (s : State). read_from known s.reading s.place (map f xs))) (plain-next (reading bind names) (f x) e)
      ∙ ap (λ r. read_from known r before_dashes (map f xs)) (with-name bind names (f x))
      ∙ rest
      ∙ ap (λ l. read_from known (reading bind l) before_dashes (map f (drop n xs))) (append_assoc names (f x ∷ []) (map f (take n xs)))

  walk-from : (names : List Text) (x : X) (xs : List X) (b : Bool) → b ≡ is_option x → Walks (names ++ f x ∷ []) xs (position_or_len is_option xs) → Walks names (x ∷ xs) (cond (not b) (1 + position_or_len is_option xs) 0)
  walk-from names x xs true e rest = ap (λ l. read_from known (reading bind l) before_dashes (map f (x ∷ xs))) (sym (append-nil names))
  walk-from names x xs false e rest =
      let on : 1 + position_or_len is_option xs ≡ suc (position_or_len is_option xs) = omega arith in
      subst (Walks names (x ∷ xs)) (sym on) (one-walk names x xs (position_or_len is_option xs) (sym e) rest)

  -- the words before the first that begins with a hyphen are names
  pub names-walk : (names : List Text) (words : List X) → Walks names words (position_or_len (λ x. begins_hyphen (f x)) words)
  names-walk names [] = ap (λ l. read_from known (reading bind l) before_dashes []) (sym (append-nil names))
  names-walk names (x ∷ xs) = walk-from names x xs (is_option x) refl (names-walk (names ++ f x ∷ []) xs)

  abbrev Behind : List Text → List X → Type 0
  Behind names words = read_from known (reading bind names) behind_dashes (map f words) ≡ Some (reading bind (names ++ map f words))

  behind-from : (names : List Text) (x : X) (xs : List X) (b : Bool) → (position_or_len is_option xs ≡ length xs → Behind (names ++ f x ∷ []) xs) → cond (not b) (1 + position_or_len is_option xs) 0 ≡ length (x ∷ xs)
      → option_and_then (λ (s : State). read_from known s.reading s.place (map f xs)) (if b then None else Some (at (with_name (f x) (reading bind names)) behind_dashes)) ≡ Some (reading bind (names ++ f x ∷ map f xs))
  behind-from names x xs true rest k = absurd (omega (arith, k))
  behind-from names x xs false rest k = ap (λ r. read_from known r behind_dashes (map f xs)) (with-name bind names (f x)) ∙ rest (omega (arith, k))
      ∙ ap (λ l. Some (reading bind l)) (append_assoc names (f x ∷ []) (map f xs))

  -- behind `--` all words are names
  pub names-behind : (names : List Text) (words : List X) → position_or_len (λ x. begins_hyphen (f x)) words ≡ length words → Behind names words
  unfolding read_from
  names-behind names [] e = ap (λ l. Some (reading bind l)) (sym (append-nil names))
  names-behind names (x ∷ xs) e = behind-from names x xs (is_option x) (names-behind (names ++ f x ∷ []) xs) e

  options-from : (r : Reading) (x : X) (xs : List X) (b : Bool) → (position_or_len is_option xs < length xs → read_from known (with_name (f x) r) behind_dashes (map f xs) ≡ None) → cond (not b) (1 + position_or_len is_option xs) 0 < length (x ∷ xs)
      → option_and_then (λ (s : State). read_from known s.reading s.place (map f xs)) (if b then None else Some (at (with_name (f x) r) behind_dashes)) ≡ None
  options-from r x xs true rest k = refl
  options-from r x xs false rest k = rest (omega (arith, k))

  -- so an option there has no reading
  pub options-behind : (r : Reading) (words : List X) → position_or_len (λ x. begins_hyphen (f x)) words < length words → read_from known r behind_dashes (map f words) ≡ None
  unfolding read_from
  options-behind r [] lt = absurd (omega (arith, lt))
  options-behind r (x ∷ xs) lt = options-from r x xs (is_option x) (options-behind (with_name (f x) r) xs) lt

-- the first word that begins with a hyphen, if there is one
module _ {X : Type 0} (f : X → Text) (bind : Option Text) (names : List Text) (words : List X) where
  abbrev at_first : ℕ
  at_first = position_or_len (λ x. begins_hyphen (f x)) words

  pub walk-none : None ≡ position (λ x. begins_hyphen (f x)) words → read_from known (reading bind names) before_dashes (map f words) ≡ Some (reading bind (names ++ map f words))
  unfolding read_from
  walk-none e =
      let all : length words ≡ at_first = count-none at_first (length words) (prefix_len-le-length (λ x. not (begins_hyphen (f x))) words) (nat_lt at_first (length words)) refl e in
      names-walk f bind names words
      ∙ ap (λ l. read_from known (reading bind (names ++ map f l)) before_dashes (map f (drop at_first words))) (take_all at_first words (omega (arith, all)))
      ∙ ap (λ l. read_from known (reading bind (names ++ map f words)) before_dashes (map f l)) (drop_all at_first words (omega (arith, all)))

  pub walk-some : (k : ℕ) (x : X) → Some k ≡ position (λ x. begins_hyphen (f x)) words → k < length words → x ≡ get_or words k x
      → read_from known (reading bind names) before_dashes (map f words) ≡ read_from known (reading bind (names ++ map f (take k words))) before_dashes (f x ∷ map f (drop (k + 1) words))
  walk-some k x e lt at_k =
      let here : k ≡ at_first = count-some at_first (length words) k e in
      names-walk f bind names words
      ∙ ap (λ n. read_from known (reading bind (names ++ map f (take n words))) before_dashes (map f (drop n words))) (sym here)
      ∙ ap (λ l. read_from known (reading bind (names ++ map f (take k words))) before_dashes (map f l)) (drop-cons-at words k x lt at_k)

  pub first-hyphen : (k : ℕ) (x : X) → Some k ≡ position (λ x. begins_hyphen (f x)) words → k < length words → x ≡ get_or words k x → begins_hyphen (f x) ≡ true
  first-hyphen k x e lt at_k =
      let here : k ≡ at_first = count-some at_first (length words) k e in
      let inside : at_first < length words = omega (arith, here, lt) in
      ap (λ y. begins_hyphen (f y)) (at_k ∙ ap (λ n. get_or words n x) here) ∙ passes_at_first (λ y. begins_hyphen (f y)) words x inside

-- ---- an option

abbrev next_asks : List Text → Option State → Request
next_asks words o = preflight_of (option_and_then if_fits (option_and_then (λ (s : State). read_from known s.reading s.place words) o))

twice : (b : Bool) (s : State) → (if (b || false) && not (b || false) then Some s else None) ≡ None
twice true s = refl
twice false s = refl

after-given : (value : Text) (names : List Text) (word : Text) (o : Option (Text × Option Text)) → begins_hyphen word ≡ true → after_word known (reading (Some value) names) word o ≡ None
after-given value names word None hyphen = ap (λ b. if b then None else Some (at (with_name word (reading (Some value) names)) before_dashes)) hyphen
after-given value names word (Some o) hyphen = twice (bytes_eq (codes "bind") o.0) (after_option (reading (Some value) names) o.0 o.1)

-- behind bindings only `--` is one
pub option-again : (value : Text) (names : List Text) (word : Text) (words : List Text) → begins_hyphen word ≡ true → bytes_eq word dashes ≡ false
    → lacks want.Playbook ≡ asks_from (reading (Some value) names) before_dashes (word ∷ words)
unfolding read_from
option-again value names word words hyphen other =
    sym (ap (next_asks words) (ap (λ b. if b then Some (at (reading (Some value) names) behind_dashes) else after_word known (reading (Some value) names) word (option_in word)) other ∙ after-given value names word (option_in word) hyphen))

pub option-dashes : (bind : Option Text) (names : List Text) (word : Text) (words : List Text) → bytes_eq word dashes ≡ true
    → asks_from (reading bind names) behind_dashes words ≡ asks_from (reading bind names) before_dashes (word ∷ words)
unfolding read_from
option-dashes bind names word words is = ap (λ w. asks_from (reading bind names) before_dashes (w ∷ words)) (sym ((bytes_eq-Decides word dashes).0 is))

-- a word that is no option, and no name either
pub option-no : (names : List Text) (word : Text) (words : List Text) → begins_hyphen word ≡ true → bytes_eq word dashes ≡ false → option_in word ≡ None
    → lacks want.Playbook ≡ asks_from (reading None names) before_dashes (word ∷ words)
unfolding read_from
option-no names word words hyphen other none =
    sym (ap (next_asks words) (ap (λ b. if b then Some (at (reading None names) behind_dashes) else after_word known (reading None names) word (option_in word)) other
    ∙ ap (after_word known (reading None names) word) none ∙ ap (λ b. if b then None else Some (at (with_name word (reading None names)) before_dashes)) hyphen))

known-from : (names words : List Text) (o : Text × Option Text) (b : Bool) → next_asks words (if b && not false then Some (after_option (reading None names) o.0 o.1) else None) ≡ (if b then asks_at (after_option (reading None names) o.0 o.1) words else lacks want.Playbook)
known-from names words o true = refl
known-from names words o false = refl

pub option-known : (names : List Text) (word : Text) (words : List Text) (o : Text × Option Text) → bytes_eq word dashes ≡ false → option_in word ≡ Some o
    → option_asks names o words ≡ asks_from (reading None names) before_dashes (word ∷ words)
unfolding read_from
option-known names word words o other is =
    sym (ap (next_asks words) (ap (λ b. if b then Some (at (reading None names) behind_dashes) else after_word known (reading None names) word (option_in word)) other
    ∙ ap (after_word known (reading None names) word) is) ∙ known-from names words o (is_known known o.0))

-- ---- the value of an option that is a word of its own

pub value-none : (names : List Text) (value : Text) (words : List Text) → begins_hyphen value ≡ true → lacks want.Playbook ≡ asks_from (reading None names) (behind_option (codes "bind")) (value ∷ words)
unfolding read_from
value-none names value words e = rw e refl

pub value-some : (names : List Text) (value : Text) (words : List Text) → begins_hyphen value ≡ false
    → asks_from (reading (Some value) names) before_dashes words ≡ asks_from (reading None names) (behind_option (codes "bind")) (value ∷ words)
unfolding read_from
value-some names value words e = rw e refl

pub value-end : (names : List Text) (words : List Text) → length words < 1 → lacks want.Playbook ≡ asks_from (reading None names) (behind_option (codes "bind")) words
unfolding read_from
value-end names [] lt = refl
value-end names (word ∷ words) lt = absurd (omega (arith, lt))

-- ---- all words are read

pub whole-some : (bind : Option Text) (names : List Text) → (list_all fits names && list_all (λ p. fits p.1) (reading bind []).options) ≡ true → 0 < length names → preflights bind names ≡ preflight_of (if_fits (reading bind names))
whole-some bind [] e lt = absurd (omega (arith, lt))
whole-some None (name ∷ names) e lt = rw e refl
whole-some (Some value) (name ∷ names) e lt = rw e refl

pub all-parts : (before between behind : List Text) → (list_all fits before && (list_all fits between && list_all fits behind)) ≡ list_all fits (before ++ (between ++ behind))
all-parts before between behind = ap (λ b. list_all fits before && b) (sym (list_all-append fits between behind)) ∙ sym (list_all-append fits before (between ++ behind))

-- ---- lists

pub map-more : {A B : Type 0} (f : A → B) (xs : List A) (i : ℕ) (d : A) → i < length xs → map f (take (i + 1) xs) ≡ map f (take i xs) ++ f (get_or xs i d) ∷ []
map-more f xs i d lt = ap (map f) (take_more xs i d lt) ∙ map-append f (take i xs) (get_or xs i d ∷ [])

-- two names or more behind `explain`
pub explain-many : (names : List (String Global)) (d : String Global) → 2 ≤ length names
    → explain_books_asks (string_bytes (get_or names 0 d) ∷ map string_bytes (take (length names - 1) (drop 1 names))) ≡ explain_asks (map string_bytes names)
explain-many [] d le = absurd (omega (arith, le))
explain-many (a ∷ []) d le = absurd (omega (arith, le))
explain-many (a ∷ b ∷ names) d le = ap (λ (l : List (String Global)). explain_books_asks (string_bytes a ∷ map string_bytes l)) (take_rest (a ∷ b ∷ names) 1)
