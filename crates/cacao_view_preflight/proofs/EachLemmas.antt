-- What is made of each item and its number, from one place on; and tests of what items stand for.
use Rattle.std.proofs.Common.{◌≡◌, ◌∙◌, refl, sym, ap, arith, ℕ, ◌+◌, ◌<◌, ◌≤◌, Bool, ◌||◌, List, [], ◌∷◌, ◌++◌, length, map, drop, get_or, drop-cons, append_assoc, append-nil}
use Rattle.std.proofs.lemmas.List.{drop_all}
use Rattle.std.specs.List.{flat_map, list_any}
use Rattle.cacao_view_preflight.specs.Warnings.{Text, each}

drop_more : {A : Type 0} (xs : List A) (i : ℕ) (x : A) → i < length xs → x ≡ get_or xs i x → drop i xs ≡ x ∷ drop (i + 1) xs
drop_more xs i x lt at = let here : drop i xs ≡ get_or xs i x ∷ drop (i + 1) xs = grind (arith, drop-cons) in here ∙ ap (λ y. y ∷ drop (i + 1) xs) (sym at)

-- one item more is done: what was made of those before it, and what is made of it
pub each_next : {A : Type 0} (make : ℕ → A → List Text) (xs : List A) (i : ℕ) (x : A) (old new total : List Text) → i < length xs → x ≡ get_or xs i x
    → new ≡ old ++ make i x → old ++ each make i (drop i xs) ≡ total → new ++ each make (i + 1) (drop (i + 1) xs) ≡ total
each_next make xs i x old new total lt at is so =
    ap (λ l. l ++ each make (i + 1) (drop (i + 1) xs)) is ∙ append_assoc old (make i x) (each make (i + 1) (drop (i + 1) xs))
    ∙ ap (λ l. old ++ each make i l) (sym (drop_more xs i x lt at)) ∙ so

-- and all are done
pub each_all : {A : Type 0} (make : ℕ → A → List Text) (xs : List A) (i : ℕ) (old total : List Text) → length xs ≤ i → old ++ each make i (drop i xs) ≡ total → old ≡ total
each_all make xs i old total over so = sym (append-nil old) ∙ ap (λ l. old ++ each make i l) (sym (drop_all i xs over)) ∙ so

-- the same of what each item stands for
pub mapped_next : {A B : Type 0} (f : A → B) (make : ℕ → B → List Text) (xs : List A) (i : ℕ) (x : A) (old new total : List Text) → i < length xs → x ≡ get_or xs i x
    → new ≡ old ++ make i (f x) → old ++ each make i (map f (drop i xs)) ≡ total → new ++ each make (i + 1) (map f (drop (i + 1) xs)) ≡ total
mapped_next f make xs i x old new total lt at is so =
    ap (λ l. l ++ each make (i + 1) (map f (drop (i + 1) xs))) is ∙ append_assoc old (make i (f x)) (each make (i + 1) (map f (drop (i + 1) xs)))
    ∙ ap (λ l. old ++ each make i (map f l)) (sym (drop_more xs i x lt at)) ∙ so

pub mapped_all : {A B : Type 0} (f : A → B) (make : ℕ → B → List Text) (xs : List A) (i : ℕ) (old total : List Text) → length xs ≤ i → old ++ each make i (map f (drop i xs)) ≡ total → old ≡ total
mapped_all f make xs i old total over so = sym (append-nil old) ∙ ap (λ l. old ++ each make i (map f l)) (sym (drop_all i xs over)) ∙ so

pub list_any-map : {A B : Type 0} (p : B → Bool) (f : A → B) (xs : List A) → list_any p (map f xs) ≡ list_any (λ x. p (f x)) xs
list_any-map p f [] = refl
list_any-map p f (x ∷ xs) = ap (λ b. p (f x) || b) (list_any-map p f xs)

-- one item more is done, of those whose numbers are not told
pub added_next : {A : Type 0} (make : A → List Text) (xs : List A) (i : ℕ) (x : A) (old new total : List Text) → i < length xs → x ≡ get_or xs i x
    → new ≡ old ++ make x → old ++ flat_map make (drop i xs) ≡ total → new ++ flat_map make (drop (i + 1) xs) ≡ total
added_next make xs i x old new total lt at is so =
    ap (λ l. l ++ flat_map make (drop (i + 1) xs)) is ∙ append_assoc old (make x) (flat_map make (drop (i + 1) xs)) ∙ ap (λ l. old ++ flat_map make l) (sym (drop_more xs i x lt at)) ∙ so

pub added_mapped : {A B : Type 0} (f : A → B) (make : B → List Text) (xs : List A) (i : ℕ) (x : A) (old new total : List Text) → i < length xs → x ≡ get_or xs i x
    → new ≡ old ++ make (f x) → old ++ flat_map make (map f (drop i xs)) ≡ total → new ++ flat_map make (map f (drop (i + 1) xs)) ≡ total
added_mapped f make xs i x old new total lt at is so =
    ap (λ l. l ++ flat_map make (map f (drop (i + 1) xs))) is ∙ append_assoc old (make (f x)) (flat_map make (map f (drop (i + 1) xs)))
    ∙ ap (λ l. old ++ flat_map make (map f l)) (sym (drop_more xs i x lt at)) ∙ so

-- the same of the names of members
pub added_named : {A D : Type 0} (f : A → Text × D) (make : Text → List Text) (xs : List A) (i : ℕ) (x : A) (old new total : List Text) → i < length xs → x ≡ get_or xs i x
    → new ≡ old ++ make (f x).0 → old ++ flat_map make (map (λ (m : Text × D). m.0) (map f (drop i xs))) ≡ total → new ++ flat_map make (map (λ (m : Text × D). m.0) (map f (drop (i + 1) xs))) ≡ total
added_named {A} {D} f make xs i x old new total lt at is so =
    ap (λ l. l ++ flat_map make (map (λ (m : Text × D). m.0) (map f (drop (i + 1) xs)))) is ∙ append_assoc old (make (f x).0) (flat_map make (map (λ (m : Text × D). m.0) (map f (drop (i + 1) xs))))
    ∙ ap (λ l. old ++ flat_map make (map (λ (m : Text × D). m.0) (map f l))) (sym (drop_more xs i x lt at)) ∙ so

pub added_all : {A : Type 0} (make : A → List Text) (xs : List A) (i : ℕ) (old total : List Text) → length xs ≤ i → old ++ flat_map make (drop i xs) ≡ total → old ≡ total
added_all make xs i old total over so = sym (append-nil old) ∙ ap (λ l. old ++ flat_map make l) (sym (drop_all i xs over)) ∙ so

pub named_all : {A D : Type 0} (f : A → Text × D) (make : Text → List Text) (xs : List A) (i : ℕ) (old total : List Text) → length xs ≤ i → old ++ flat_map make (map (λ (m : Text × D). m.0) (map f (drop i xs))) ≡ total → old ≡ total
named_all {A} {D} f make xs i old total over so = sym (append-nil old) ∙ ap (λ l. old ++ flat_map make (map (λ (m : Text × D). m.0) (map f l))) (sym (drop_all i xs over)) ∙ so
