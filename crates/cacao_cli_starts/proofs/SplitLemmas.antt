-- The texts of a run, split off from those of its files.
use Rattle.std.proofs.Common.{◌≡◌, ◌∙◌, refl, sym, ap, arith, ℕ, ◌+◌, ◌<◌, Bool, true, false, List, [], ◌∷◌, ◌++◌, append_assoc, length, length-append, map, Option, Some, None}
use Rattle.std.specs.Prelude.{IsSome, is_some, option_map, option_to_list}
use Rattle.std.proofs.lemmas.Bool.{true≢false}
use Rattle.std.proofs.lemmas.List.{length-map, map-append}
use Rattle.cacao_cli_words.specs.Requests.{RunRequest}
use Rattle.cacao_cli_words.specs.Words.{Text}
use Rattle.cacao_cli_looks.specs.Command.{text_of}
use Rattle.cacao_cli_ends.specs.Files.{NamedText, listed, run_names}
use Rattle.cacao_cli_ends.specs.Work.{Start, bytes_of, start_of}
use Rattle.cacao_cli_looks.specs.declared.file_text.FileText.{FileText}
use Rattle.cacao_cli_starts.proofs.PartLemmas.{start-split}

pub mapped-some : {A B : Type 0} (f : A → B) (o : Option A) → is_some (option_map f o) ≡ is_some o
mapped-some f None = refl
mapped-some f (Some x) = refl

-- a text is found exactly where its file is named
as-found : (named : Option Text) (n : Bool) (found : Option FileText) → n ≡ is_some named → (n ≡ false → found ≡ None) → (n ≡ true → IsSome found) → is_some named ≡ is_some (option_map text_of found)
as-found named n found is none some = sym is ∙ go n none some ∙ sym (mapped-some text_of found)
  where
    go : (b : Bool) → (b ≡ false → found ≡ None) → (b ≡ true → IsSome found) → b ≡ is_some found
    go true none some = sym (some refl)
    go false none some = sym (ap (λ (o : Option FileText). is_some o) (none refl))

listed-length : (named : Option Text) (found : Option FileText) → is_some named ≡ is_some (option_map text_of found) → length (listed named) ≡ length (option_to_list found)
listed-length None None e = refl
listed-length None (Some x) e = absurd (true≢false (sym e))
listed-length (Some n) None e = absurd (true≢false e)
listed-length (Some n) (Some x) e = refl

one-listed : (named : Option Text) (n : Bool) → n ≡ is_some named → n ≡ true → length (listed named) ≡ 1
one-listed None n is e = absurd (true≢false (sym e ∙ is))
one-listed (Some name) n is e = refl

map-list : (o : Option FileText) → map text_of (option_to_list o) ≡ option_to_list (option_map text_of o)
map-list None = refl
map-list (Some x) = refl

bytes-map : (texts : List FileText) → map (λ (text : FileText). text.bytes) texts ≡ map (λ (text : NamedText). text.bytes) (map text_of texts)
bytes-map [] = refl
bytes-map (x ∷ xs) = ap (λ (l : List Text). x.bytes ∷ l) (bytes-map xs)

start-as : {xs ys : List Text} {c d : Text} (run most : ℕ) (answers : Option NamedText) → xs ≡ ys → c ≡ d
    → ◌≡◌ {A = Start} (record { run = run; most = most; books = xs; bind = c; answers = answers }) (record { run = run; most = most; books = ys; bind = d; answers = answers })
start-as run most answers p q = cc

pub split-start : (wanted : RunRequest) (all mid left : List FileText) (a b : Option FileText) (na nb : Bool) (books : List Text) (bind : Text) → length all ≡ length (run_names wanted)
    → na ≡ is_some wanted.answers → nb ≡ is_some wanted.bind
    → all ≡ mid ++ option_to_list a → (na ≡ false → a ≡ None) → (na ≡ true → 0 < length all → IsSome a)
    → mid ≡ left ++ option_to_list b → (nb ≡ false → b ≡ None) → (nb ≡ true → 0 < length mid → IsSome b)
    → books ≡ map (λ (text : FileText). text.bytes) left → bind ≡ bytes_of (option_map text_of b)
    → ◌≡◌ {A = Start} (record { run = wanted.run; most = wanted.most; books = books; bind = bind; answers = option_map text_of a }) (start_of wanted (map text_of all))
split-start wanted all mid left a b na nb books bind many an bn front none_a some_a behind none_b some_b books_are bind_is =
    let total : length (run_names wanted) ≡ length wanted.books + (length (listed wanted.bind) + length (listed wanted.answers)) =
    length-append wanted.books (listed wanted.bind ++ listed wanted.answers) ∙ ap (λ (n : ℕ). length wanted.books + n) (length-append (listed wanted.bind) (listed wanted.answers)) in
    let is_a : is_some wanted.answers ≡ is_some (option_map text_of a) =
    as-found wanted.answers na a an none_a (λ e. some_a e (let one = one-listed wanted.answers na an e in omega (arith, one, many, total))) in
    let long_a : length (listed wanted.answers) ≡ length (option_to_list a) = listed-length wanted.answers a is_a in
    let sum_a : length all ≡ length mid + length (option_to_list a) = ap (λ (l : List FileText). length l) front ∙ length-append mid (option_to_list a) in
    let is_b : is_some wanted.bind ≡ is_some (option_map text_of b) =
    as-found wanted.bind nb b bn none_b (λ e. some_b e (let one = one-listed wanted.bind nb bn e in omega (arith, one, many, total, long_a, sum_a))) in
    let long_b : length (listed wanted.bind) ≡ length (option_to_list b) = listed-length wanted.bind b is_b in
    let sum_b : length mid ≡ length left + length (option_to_list b) = ap (λ (l : List FileText). length l) behind ∙ length-append left (option_to_list b) in
    let count : length (map text_of left) ≡ length wanted.books = length-map left text_of ∙ omega (arith, many, total, long_a, sum_a, long_b, sum_b) in
    let are : map text_of all ≡ map text_of left ++ (option_to_list (option_map text_of b) ++ option_to_list (option_map text_of a)) =
    ap (map text_of) (front ∙ ap (λ (l : List FileText). l ++ option_to_list a) behind ∙ append_assoc left (option_to_list b) (option_to_list a))
    ∙ map-append text_of left (option_to_list b ++ option_to_list a)
    ∙ ap (λ (l : List NamedText). map text_of left ++ l) (map-append text_of (option_to_list b) (option_to_list a))
    ∙ ap (λ (l : List NamedText). map text_of left ++ (l ++ map text_of (option_to_list a))) (map-list b)
    ∙ ap (λ (l : List NamedText). map text_of left ++ (option_to_list (option_map text_of b) ++ l)) (map-list a) in
    start-as wanted.run wanted.most (option_map text_of a) (books_are ∙ bytes-map left) bind_is
    ∙ start-split wanted (map text_of left) (option_map text_of b) (option_map text_of a) (map text_of all) count is_b is_a are
