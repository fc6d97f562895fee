-- Lines of records are told from all others.
use Rattle.std.proofs.Common.{◌≡◌, ℕ, suc, ◌<◌, ◌^◌, ◌==◌, ◌&&◌, ◌||◌, Bool, true, false, List, [], ◌∷◌, ◌++◌, length, get_or, arith, refl, ap, sym, subst, ◌∙◌}
use Rattle.std.specs.Prelude.{codes, nat_eq}
use Rattle.std.specs.Fmt.{decimal}
use Rattle.std.specs.List.{list_all, list_any}
use Rattle.std.specs.Str.{bytes_eq}
use Rattle.std.proofs.lemmas.Fmt.{digits_decimal, decimal_nonempty, decimal_injective}
use Rattle.std.proofs.lemmas.Str.Parse.{digit_at}
use Rattle.std.proofs.lemmas.Slice.Eq.{bytes_eq-Decides}
use Rattle.base_decimals.proofs.Decimals.{own}
use Rattle.run_records.specs.declared.record.Record.TheVariants as entry
use Rattle.cacao_text.specs.Canon.{string_text}
use Rattle.flow_core_rules.specs.Lines.{line, key_of, said}
use Rattle.flow_core_rules.specs.Changes.{moment_of}
use Rattle.flow_core_rules.specs.Laws.{is_digit, AreDigits, IsRecordLine, record_words, word_starts, RecordsHaveLines, LinesFixRecords, OthersAreNoRecords}

list_all_from : (xs : List ℕ) → ((k : ℕ) → k < length xs → is_digit (get_or xs k 0) ≡ true) → list_all is_digit xs ≡ true
list_all_from [] holds = refl
list_all_from (x ∷ xs) holds = rw (holds 0 (omega arith), list_all_from xs (λ k h. holds (suc k) (omega arith))) refl

all_digits : (n : ℕ) → n < 2 ^ 64 → list_all is_digit (decimal n) ≡ true
all_digits n small = list_all_from (decimal n) (λ k h. let d = digit_at (decimal n) k (digits_decimal own n small) h in grind arith)

are_digits : (n : ℕ) → n < 2 ^ 64 → AreDigits (decimal n)
are_digits n small = (decimal_nonempty n small, all_digits n small)

-- a word of records behind a number and a moment, and a further word
words_line : (n : ℕ) (m : ℕ) (word next : List ℕ) (others : List (List ℕ)) → n < 2 ^ 64 → m < 2 ^ 64 → list_any (bytes_eq word) record_words ≡ true
    → IsRecordLine (decimal n ++ line (decimal m ∷ word ∷ next ∷ others))
words_line n m word next others small early is = record {
  number = decimal n;
  moment = decimal m;
  word = word;
  rest = next ++ line others;
  number_is = are_digits n small;
  moment_is = are_digits m early;
  word_is = is;
  joined = refl;
}

pub records_have_lines : RecordsHaveLines
records_have_lines before n (entry.Begin run moment books bind) small early = words_line n moment (codes "begin") (decimal run) [] small early refl
records_have_lines before n (entry.Walk task moment) small early = words_line n moment (codes "walk") (decimal task) (key_of before task ∷ []) small early refl
records_have_lines before n (entry.Send task issue agent moment bytes) small early = words_line n moment (codes "send") (decimal issue) (decimal agent ∷ []) small early refl
records_have_lines before n (entry.Reply issue moment status rule text) small early = words_line n moment (codes "reply") (decimal issue) (decimal status ∷ []) small early refl
records_have_lines before n (entry.Expire issue moment) small early = words_line n moment (codes "expire") (decimal issue) [] small early refl
records_have_lines before n (entry.Upgrade version moment) small early = words_line n moment (codes "upgrade") (decimal version) [] small early refl
records_have_lines before n (entry.Ask task issue moment bytes) small early = words_line n moment (codes "ask") (decimal issue) (string_text bytes ∷ []) small early refl
records_have_lines before n (entry.Told issue moment status text) small early = words_line n moment (codes "told") (decimal issue) (decimal status ∷ []) small early refl

-- ---- other lines

both_true : (a b : Bool) → (a && b) ≡ true → (a ≡ true) × (b ≡ true)
both_true true true e = (refl, refl)
both_true true false e = (refl, e)
both_true false b e = (e, absurd (no e))
  where
    no : false ≡ true → ⊥
    no h = cc

heads : (x y : ℕ) (xs ys : List ℕ) → x ∷ xs ≡ y ∷ ys → (x ≡ y) × (xs ≡ ys)
heads x y xs ys h = (cc, cc)

apart : (x y : ℕ) → is_digit x ≡ false → is_digit y ≡ true → x ≡ y → ⊥
apart x y other digit same = clash (is_digit y) digit (subst (λ z. is_digit z ≡ false) same other)
  where
    clash : (b : Bool) → b ≡ true → b ≡ false → ⊥
    clash true a c = cc
    clash false a c = cc

-- what stands behind the digits of a text is the same, however they are taken
behind_digits : (xs ys : List ℕ) (a b : ℕ) (after_a after_b : List ℕ) → list_all is_digit xs ≡ true → list_all is_digit ys ≡ true → is_digit a ≡ false → is_digit b ≡ false
    → xs ++ a ∷ after_a ≡ ys ++ b ∷ after_b → (a ≡ b) × (after_a ≡ after_b)
behind_digits [] [] a b after_a after_b dx dy na nb e = heads a b after_a after_b e
behind_digits [] (y ∷ ys) a b after_a after_b dx dy na nb e =
    let parts = both_true (is_digit y) (list_all is_digit ys) dy in
    absurd (apart a y na parts.0 (heads a y after_a (ys ++ b ∷ after_b) e).0)
behind_digits (x ∷ xs) [] a b after_a after_b dx dy na nb e =
    let parts = both_true (is_digit x) (list_all is_digit xs) dx in
    absurd (apart b x nb parts.0 (sym (heads x b (xs ++ a ∷ after_a) after_b e).0))
behind_digits (x ∷ xs) (y ∷ ys) a b after_a after_b dx dy na nb e =
    let dx' = both_true (is_digit x) (list_all is_digit xs) dx in
    let dy' = both_true (is_digit y) (list_all is_digit ys) dy in
    behind_digits xs ys a b after_a after_b dx'.1 dy'.1 na nb (heads x y (xs ++ a ∷ after_a) (ys ++ b ∷ after_b) e).1

-- what begins with no digit does not begin with digits
no_digits : (digits : List ℕ) (c : ℕ) (rest others : List ℕ) → AreDigits digits → is_digit c ≡ false → c ∷ rest ≡ digits ++ others → ⊥
no_digits [] c rest others d not e = let h = d.0 in absurd (omega arith)
no_digits (x ∷ xs) c rest others d not e =
    let parts = both_true (is_digit x) (list_all is_digit xs) d.1 in
    apart c x not parts.0 (heads c x rest (xs ++ others) e).0

-- the digits of a text are the same, however they are taken
same_digits : (xs ys : List ℕ) (a b : ℕ) (after_a after_b : List ℕ) → list_all is_digit xs ≡ true → list_all is_digit ys ≡ true → is_digit a ≡ false → is_digit b ≡ false
    → xs ++ a ∷ after_a ≡ ys ++ b ∷ after_b → xs ≡ ys
same_digits [] [] a b after_a after_b dx dy na nb e = refl
same_digits [] (y ∷ ys) a b after_a after_b dx dy na nb e =
    let parts = both_true (is_digit y) (list_all is_digit ys) dy in
    absurd (apart a y na parts.0 (heads a y after_a (ys ++ b ∷ after_b) e).0)
same_digits (x ∷ xs) [] a b after_a after_b dx dy na nb e =
    let parts = both_true (is_digit x) (list_all is_digit xs) dx in
    absurd (apart b x nb parts.0 (sym (heads x b (xs ++ a ∷ after_a) after_b e).0))
same_digits (x ∷ xs) (y ∷ ys) a b after_a after_b dx dy na nb e =
    let dx' = both_true (is_digit x) (list_all is_digit xs) dx in
    let dy' = both_true (is_digit y) (list_all is_digit ys) dy in
    let front = heads x y (xs ++ a ∷ after_a) (ys ++ b ∷ after_b) e in
    ap (λ z. z ∷ xs) front.0 ∙ ap (λ zs. y ∷ zs) (same_digits xs ys a b after_a after_b dx'.1 dy'.1 na nb front.1)

-- a line is a number, a space, a moment, and a space or the line's end
behind_moment : (words : List (List ℕ)) → (c : ℕ) × (rest : List ℕ) × (is_digit c ≡ false) × (line words ≡ c ∷ rest)
behind_moment [] = (10, [], refl, refl)
behind_moment (word ∷ words) = (32, word ++ line words, refl, refl)

pub lines_fix_records : LinesFixRecords
lines_fix_records a b n m r q small less early soon e =
    let x = behind_moment (said a r) in
    let y = behind_moment (said b q) in
    let number : decimal n ≡ decimal m =
    same_digits (decimal n) (decimal m) 32 32 (decimal (moment_of r) ++ line (said a r)) (decimal (moment_of q) ++ line (said b q)) (all_digits n small) (all_digits m less) refl refl e in
    let behind = behind_digits (decimal n) (decimal m) 32 32 (decimal (moment_of r) ++ line (said a r)) (decimal (moment_of q) ++ line (said b q)) (all_digits n small) (all_digits m less) refl refl e in
    let taken : decimal (moment_of r) ++ x.0 ∷ x.1 ≡ decimal (moment_of q) ++ y.0 ∷ y.1 =
    ap (λ zs. decimal (moment_of r) ++ zs) (sym x.3) ∙ behind.1 ∙ ap (λ zs. decimal (moment_of q) ++ zs) y.3 in
    let moment : decimal (moment_of r) ≡ decimal (moment_of q) =
    same_digits (decimal (moment_of r)) (decimal (moment_of q)) x.0 y.0 x.1 y.1 (all_digits (moment_of r) early) (all_digits (moment_of q) soon) x.2 y.2 taken in
    (decimal_injective n m small less number, decimal_injective (moment_of r) (moment_of q) early soon moment)

-- a record's word begins with one of the characters with which such words begin
word_start : (x : ℕ) (xs : List ℕ) → list_any (bytes_eq (x ∷ xs)) record_words ≡ true → list_any (nat_eq x) word_starts ≡ true
word_start x xs e =
    by (codes "begin") (λ s. starts 98 refl s) (by (codes "walk") (λ s. starts 119 refl s) (by (codes "send") (λ s. starts 115 refl s) (by (codes "reply") (λ s. starts 114 refl s)
    (by (codes "expire") (λ s. starts 101 refl s) (by (codes "upgrade") (λ s. starts 117 refl s) (by (codes "ask") (λ s. starts 97 refl s) (by (codes "told") (λ s. starts 116 refl s) none))))))) e
  where
    starts : (c : ℕ) → list_any (nat_eq c) word_starts ≡ true → x ≡ c → list_any (nat_eq x) word_starts ≡ true
    starts c is s = subst (λ z. list_any (nat_eq z) word_starts ≡ true) (sym s) is

    none : false ≡ true → list_any (nat_eq x) word_starts ≡ true
    none h = cc

    either : (p q : Bool) → (p || q) ≡ true → (p ≡ true → list_any (nat_eq x) word_starts ≡ true) → (q ≡ true → list_any (nat_eq x) word_starts ≡ true) → list_any (nat_eq x) word_starts ≡ true
    either true q h f g = f refl
    either false q h f g = g h

    by : {rest : Bool} (word : List ℕ) → (x ≡ get_or word 0 0 → list_any (nat_eq x) word_starts ≡ true) → (rest ≡ true → list_any (nat_eq x) word_starts ≡ true)
        → (bytes_eq (x ∷ xs) word || rest) ≡ true → list_any (nat_eq x) word_starts ≡ true
    by {rest} word f g h = either (bytes_eq (x ∷ xs) word) rest h (λ same. f (ap (λ zs. get_or zs 0 0) ((bytes_eq-Decides (x ∷ xs) word).0 same))) g

-- a text does not begin with a record's word whose first character begins none
no_start : (c : ℕ) (rest word others : List ℕ) → list_any (bytes_eq word) record_words ≡ true → list_any (nat_eq c) word_starts ≡ false → c ∷ rest ≡ word ++ 32 ∷ others → ⊥
no_start c rest [] others is not e = cc
no_start c rest (x ∷ xs) others is not e =
    clash (list_any (nat_eq c) word_starts) (subst (λ z. list_any (nat_eq z) word_starts ≡ true) (sym (heads c x rest (xs ++ 32 ∷ others) e).0) (word_start x xs is)) not
  where
    clash : (b : Bool) → b ≡ true → b ≡ false → ⊥
    clash true a d = cc
    clash false a d = cc

pub others_are_no_records : OthersAreNoRecords
others_are_no_records = record {
  no_number = λ c rest not r. no_digits r.number c rest (32 ∷ (r.moment ++ 32 ∷ (r.word ++ 32 ∷ r.rest))) r.number_is not r.joined;
  no_space = λ number c rest digits not other r.
      spaces c ((behind_digits number r.number c 32 rest (r.moment ++ 32 ∷ (r.word ++ 32 ∷ r.rest)) digits (r.number_is).1 not refl r.joined).0) other;
  no_moment = λ number c rest digits not r.
      no_digits r.moment c rest (32 ∷ (r.word ++ 32 ∷ r.rest)) r.moment_is not ((behind_digits number r.number 32 32 (c ∷ rest) (r.moment ++ 32 ∷ (r.word ++ 32 ∷ r.rest)) digits (r.number_is).1 refl refl r.joined).1);
  no_second_space = λ number moment c rest digits more not other r.
      let behind = behind_digits number r.number 32 32 (moment ++ c ∷ rest) (r.moment ++ 32 ∷ (r.word ++ 32 ∷ r.rest)) digits (r.number_is).1 refl refl r.joined in
      spaces c ((behind_digits moment r.moment c 32 rest (r.word ++ 32 ∷ r.rest) more (r.moment_is).1 not refl behind.1).0) other;
  no_word = λ number moment c rest digits more not r.
      let behind = behind_digits number r.number 32 32 (moment ++ 32 ∷ c ∷ rest) (r.moment ++ 32 ∷ (r.word ++ 32 ∷ r.rest)) digits (r.number_is).1 refl refl r.joined in
      let further = behind_digits moment r.moment 32 32 (c ∷ rest) (r.word ++ 32 ∷ r.rest) more (r.moment_is).1 refl refl behind.1 in
      no_start c rest r.word r.rest r.word_is not further.1;
}
  where
    spaces : (c : ℕ) → c ≡ 32 → (c == 32) ≡ false → ⊥
    spaces c same other = clash (subst (λ z. (z == 32) ≡ false) same other)
      where
        clash : true ≡ false → ⊥
        clash h = cc
