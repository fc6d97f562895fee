-- An image stands for at most one list.
use Rattle.std.proofs.Common.{◌≡◌, ◌≢◌, ℕ, ◌/◌, ◌%◌, ◌≤◌, List, [], ◌∷◌, ◌++◌, length, get_or, take, drop, refl, sym, ◌∙◌, ap, arith, append_assoc}
use Rattle.std.specs.Prelude.{All}
use Rattle.std.proofs.lemmas.List.{take_at, drop_at}
use Rattle.std.proofs.lemmas.List.Elements.{All-head, All-tail}
use Rattle.run_journal.specs.Layout.{entries, length_field, length_of, IsEntry}

-- no whole entry stands at the front
abbrev pub NoEntry : List ℕ → Type 0
NoEntry rest = (x after : List ℕ) → IsEntry x → rest ≢ (1 ∷ length_field (length x)) ++ x ++ after

pub field_inverse : (n : ℕ) → n ≤ 17829888 → length_of (n / 16777216 % 256) (n / 65536 % 256) (n / 256 % 256) (n % 256) ≡ n
field_inverse n le = omega arith

pub no_entry_closed : (gate : ℕ) (rest : List ℕ) → gate ≢ 1 → NoEntry (gate ∷ rest)
no_entry_closed gate rest shut x after short e = shut (cc)

tail_is : (x y : ℕ) (xs ys : List ℕ) → x ∷ xs ≡ y ∷ ys → xs ≡ ys
tail_is x y xs ys e = cc

-- two fields that are equal say one length
same_length : (m n : ℕ) → m ≤ 17829888 → n ≤ 17829888 → length_field m ≡ length_field n → m ≡ n
same_length m n p q e =
    let value : List ℕ → ℕ = λ l. length_of (get_or l 0 0) (get_or l 1 0) (get_or l 2 0) (get_or l 3 0) in
    sym (field_inverse m p) ∙ ap value e ∙ field_inverse n q

same_front : (x y p q : List ℕ) → length x ≡ length y → x ++ p ≡ y ++ q → x ≡ y
same_front x y p q e h = sym (take_at x p (length x) refl) ∙ ap (λ (l : List ℕ). take (length x) l) h ∙ take_at y q (length x) (sym e)

pub same_back : (x y p q : List ℕ) → length x ≡ length y → x ++ p ≡ y ++ q → p ≡ q
same_back x y p q e h = sym (drop_at x p (length x) refl) ∙ ap (λ (l : List ℕ). drop (length x) l) h ∙ drop_at y q (length x) (sym e)

pub unique : (xs ys : List (List ℕ)) (r s : List ℕ) → All IsEntry xs → All IsEntry ys → NoEntry r → NoEntry s → entries xs ++ r ≡ entries ys ++ s → xs ≡ ys
unfolding entries
unique [] [] r s p q nr ns e = refl
unique [] (y ∷ ys) r s p q nr ns e = absurd (nr y (entries ys ++ s) (All-head IsEntry y ys q) (e ∙ append_assoc ((1 ∷ length_field (length y)) ++ y) (entries ys) s))
unique (x ∷ xs) [] r s p q nr ns e = absurd (ns x (entries xs ++ r) (All-head IsEntry x xs p) (sym e ∙ append_assoc ((1 ∷ length_field (length x)) ++ x) (entries xs) r))
unique (x ∷ xs) (y ∷ ys) r s p q nr ns e =
    let left : entries (x ∷ xs) ++ r ≡ (1 ∷ length_field (length x)) ++ (x ++ (entries xs ++ r)) = append_assoc ((1 ∷ length_field (length x)) ++ x) (entries xs) r ∙ append_assoc (1 ∷ length_field (length x)) x (entries xs ++ r) in
    let right : entries (y ∷ ys) ++ s ≡ (1 ∷ length_field (length y)) ++ (y ++ (entries ys ++ s)) = append_assoc ((1 ∷ length_field (length y)) ++ y) (entries ys) s ∙ append_assoc (1 ∷ length_field (length y)) y (entries ys ++ s) in
    let whole = sym left ∙ e ∙ right in
    let fields : 1 ∷ length_field (length x) ≡ 1 ∷ length_field (length y) = same_front (1 ∷ length_field (length x)) (1 ∷ length_field (length y)) _ _ refl whole in
    let behind : x ++ (entries xs ++ r) ≡ y ++ (entries ys ++ s) = same_back (1 ∷ length_field (length x)) (1 ∷ length_field (length y)) _ _ refl whole in
    let size : length x ≡ length y = same_length (length x) (length y) (All-head IsEntry x xs p) (All-head IsEntry y ys q) (tail_is 1 1 _ _ fields) in
    let first : x ≡ y = same_front x y _ _ size behind in
    let rest : xs ≡ ys = unique xs ys r s (All-tail IsEntry x xs p) (All-tail IsEntry y ys q) nr ns (same_back x y _ _ size behind) in
    λ i. first i ∷ rest i
