-- The texts of the files of a run without answers: those of the playbooks, and that of bindings.
use Rattle.std.proofs.Common.{◌≡◌, ◌∙◌, refl, sym, ap, arith, ℕ, zero, suc, ◌+◌, Bool, true, false, List, [], ◌∷◌, ◌++◌, length, length-append, map, take, drop, append-nil, Option, Some, None}
use Rattle.std.specs.Prelude.{IsTrue, is_some, not, option_to_list, if◌then◌else◌}
use Rattle.std.proofs.lemmas.Bool.{true≢false}
use Rattle.std.proofs.lemmas.List.{length-map}
use Rattle.cacao_cli_words.specs.Requests.{RunRequest}
use Rattle.cacao_cli_words.specs.Words.{Text}
use Rattle.cacao_cli_ends.specs.Files.{NamedText, book_file, listed, run_names}
use Rattle.cacao_cli_ends.specs.Work.{bytes_of, first_if, rest_if, start_of, trees_wanted}
use Rattle.cacao_cli_ends.proofs.EndLemmas.{no_cons}
use Rattle.cacao_view_preflight.specs.Preflights.{AreTexts, SplitsOff}

abbrev bytes_all : List NamedText → List Text
bytes_all texts = map (λ text. text.bytes) texts

-- ---- the texts in two parts

halves : (bind : Option Text) (n : ℕ) (texts : List NamedText) → length texts ≡ n + length (listed bind) → take n texts ++ option_to_list (first_if bind (drop n texts)) ≡ texts
halves None zero [] many = refl
halves None zero (x ∷ xs) many = absurd (omega (arith, many))
halves None (suc n) [] many = absurd (omega (arith, many))
halves None (suc n) (x ∷ xs) many = ap (λ (l : List NamedText). x ∷ l) (halves None n xs (omega (arith, many)))
halves (Some name) zero [] many = absurd (omega (arith, many))
halves (Some name) zero (x ∷ []) many = refl
halves (Some name) zero (x ∷ y ∷ xs) many = absurd (omega (arith, many))
halves (Some name) (suc n) [] many = absurd (omega (arith, many))
halves (Some name) (suc n) (x ∷ xs) many = ap (λ (l : List NamedText). x ∷ l) (halves (Some name) n xs (omega (arith, many)))

byte_halves : (bind : Option Text) (n : ℕ) (texts : List NamedText) → length texts ≡ n + length (listed bind)
    → bytes_all texts ≡ bytes_all (take n texts) ++ (if is_some bind then bytes_of (first_if bind (drop n texts)) ∷ [] else [])
byte_halves None zero [] many = refl
byte_halves None zero (x ∷ xs) many = absurd (omega (arith, many))
byte_halves None (suc n) [] many = absurd (omega (arith, many))
byte_halves None (suc n) (x ∷ xs) many = ap (λ (l : List Text). x.bytes ∷ l) (byte_halves None n xs (omega (arith, many)))
byte_halves (Some name) zero [] many = absurd (omega (arith, many))
byte_halves (Some name) zero (x ∷ []) many = refl
byte_halves (Some name) zero (x ∷ y ∷ xs) many = absurd (omega (arith, many))
byte_halves (Some name) (suc n) [] many = absurd (omega (arith, many))
byte_halves (Some name) (suc n) (x ∷ xs) many = ap (λ (l : List Text). x.bytes ∷ l) (byte_halves (Some name) n xs (omega (arith, many)))

unbound : (bind : Option Text) (texts : List NamedText) → IsTrue (not (is_some bind)) → bytes_of (first_if bind texts) ≡ []
unbound None texts h = refl
unbound (Some name) texts h = absurd (true≢false (sym h))

-- ---- they are split off in one way

head : (a b : Text) (xs ys : List Text) → a ∷ xs ≡ b ∷ ys → a ≡ b
head a b xs ys e = cc

tail : (a b : Text) (xs ys : List Text) → a ∷ xs ≡ b ∷ ys → xs ≡ ys
tail a b xs ys e = cc

same_cons : (x y : Text) (xs ys : List Text) → x ≡ y → xs ≡ ys → x ∷ xs ≡ y ∷ ys
same_cons x y xs ys e f = cc

one_last : (xs ys : List Text) (a b : Text) → xs ++ a ∷ [] ≡ ys ++ b ∷ [] → (xs ≡ ys) × (a ≡ b)
one_last [] [] a b e = (refl, head a b [] [] e)
one_last [] (y ∷ ys) a b e = absurd (no_cons ys [] a b (tail a y [] (ys ++ b ∷ []) e))
one_last (x ∷ xs) [] a b e = absurd (no_cons xs [] b a (sym (tail x b (xs ++ a ∷ []) [] e)))
one_last (x ∷ xs) (y ∷ ys) a b e =
    let rest = one_last xs ys a b (tail x y (xs ++ a ∷ []) (ys ++ b ∷ []) e) in
    (same_cons x y xs ys (head x y (xs ++ a ∷ []) (ys ++ b ∷ []) e) rest.0, rest.1)

one_split : (bound : Bool) (all xs ys : List Text) (a b : Text) → SplitsOff bound [] all xs a → SplitsOff bound [] all ys b → (xs ≡ ys) × (a ≡ b)
one_split true all xs ys a b p q = one_last xs ys a b (sym p.all_are ∙ q.all_are)
one_split false all xs ys a b p q = (sym (append-nil xs) ∙ sym p.all_are ∙ q.all_are ∙ append-nil ys, p.is_none refl ∙ sym (q.is_none refl))

-- ---- those of a run

module _ (wanted : RunRequest) (texts : List NamedText) (none : wanted.answers ≡ None) (many : length texts ≡ length (map book_file (run_names wanted))) where
  counted : length texts ≡ length wanted.books + length (listed wanted.bind)
  counted =
      many ∙ length-map (run_names wanted) book_file ∙ ap (λ (o : Option Text). length (wanted.books ++ (listed wanted.bind ++ listed o))) none
      ∙ ap (λ (l : List Text). length (wanted.books ++ l)) (append-nil (listed wanted.bind)) ∙ length-append wanted.books (listed wanted.bind)

  pub all-wanted : trees_wanted wanted texts ≡ texts
  all-wanted = halves wanted.bind (length wanted.books) texts counted

  pub start-texts : (books : List Text) (bind : Text) → AreTexts (is_some wanted.bind) texts books bind → (books ≡ (start_of wanted texts).books) × (bind ≡ (start_of wanted texts).bind)
  start-texts books bind are =
      one_split (is_some wanted.bind) (bytes_all texts) books (bytes_all (take (length wanted.books) texts)) bind (bytes_of (first_if wanted.bind (drop (length wanted.books) texts))) are
      (record { all_are = byte_halves wanted.bind (length wanted.books) texts counted; is_none = unbound wanted.bind (drop (length wanted.books) texts) })

  pub no-answers : (start_of wanted texts).answers ≡ None
  no-answers = ap (λ (o : Option Text). first_if o (rest_if wanted.bind (drop (length wanted.books) texts))) none
