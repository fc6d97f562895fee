-- Lists that are added to and changed at places: two such changes may come in either order where they are apart.
use Rattle.std.proofs.Common.{◌≡◌, ℕ, zero, suc, ◌<◌, ◌≤◌, List, [], ◌∷◌, ◌++◌, length, Option, Some, None, arith, refl, ap, sym, ◌∙◌, length-append}
use Rattle.std.specs.Bool.{⊤}
use Rattle.std.specs.List.{AllByRecursion, slice_set}
use Rattle.flow_core_rules.specs.Edits.{Edit, changed_at}

-- an element is added at the end, or the one at a place is changed
pub data Act (A : Type 0) : Type 0 where
  adds : A → Act A
  alters : ℕ → (A → A) → Act A

abbrev pub act : {A : Type 0} → Option (Act A) → List A → List A
act None xs = xs
act (Some (adds x)) xs = xs ++ x ∷ []
act (Some (alters n f)) xs = changed_at n f xs

-- Apart, on lists of at least so many elements.
abbrev pub ActApart : {A : Type 0} → ℕ → Option (Act A) → Option (Act A) → Type 0
ActApart bound None b = ⊤
ActApart bound (Some (adds x)) None = ⊤
ActApart bound (Some (adds x)) (Some (adds y)) = ⊥
ActApart bound (Some (adds x)) (Some (alters m g)) = m < bound
ActApart bound (Some (alters n f)) None = ⊤
ActApart bound (Some (alters n f)) (Some (adds y)) = n < bound
ActApart {A} bound (Some (alters n f)) (Some (alters m g)) = n ≡ m → (x : A) → g (f x) ≡ f (g x)

changed_front : {A : Type 0} (n : ℕ) (f : A → A) (xs ys : List A) → n < length xs → changed_at n f (xs ++ ys) ≡ changed_at n f xs ++ ys
changed_front n f [] ys less = absurd (omega arith)
changed_front zero f (x ∷ xs) ys less = refl
changed_front (suc n) f (x ∷ xs) ys less = ap (λ (zs : List _). x ∷ zs) (changed_front n f xs ys (omega arith))

changed_both : {A : Type 0} (n m : ℕ) (f g : A → A) (xs : List A) → (n ≡ m → (x : A) → g (f x) ≡ f (g x)) → changed_at m g (changed_at n f xs) ≡ changed_at n f (changed_at m g xs)
changed_both n m f g [] h = refl
changed_both zero zero f g (x ∷ xs) h = ap (λ y. y ∷ xs) (h refl x)
changed_both zero (suc m) f g (x ∷ xs) h = refl
changed_both (suc n) zero f g (x ∷ xs) h = refl
changed_both (suc n) (suc m) f g (x ∷ xs) h = ap (λ (zs : List _). x ∷ zs) (changed_both n m f g xs (λ e. h (ap suc e)))

pub changed_length : {A : Type 0} (n : ℕ) (f : A → A) (xs : List A) → length (changed_at n f xs) ≡ length xs
changed_length n f [] = refl
changed_length zero f (x ∷ xs) = refl
changed_length (suc n) f (x ∷ xs) = ap suc (changed_length n f xs)

swap : {A : Type 0} (bound : ℕ) (a b : Option (Act A)) (xs : List A) → bound ≤ length xs → ActApart bound a b → act b (act a xs) ≡ act a (act b xs)
swap bound None b xs le h = refl
swap bound (Some (adds x)) None xs le h = refl
swap bound (Some (adds x)) (Some (adds y)) xs le h = absurd h
swap bound (Some (adds x)) (Some (alters m g)) xs le h = changed_front m g xs (x ∷ []) (omega (arith, le, h))
swap bound (Some (alters n f)) None xs le h = refl
swap bound (Some (alters n f)) (Some (adds y)) xs le h = sym (changed_front n f xs (y ∷ []) (omega (arith, le, h)))
swap bound (Some (alters n f)) (Some (alters m g)) xs le h = changed_both n m f g xs h

grows : {A : Type 0} (bound : ℕ) (a : Option (Act A)) (xs : List A) → bound ≤ length xs → bound ≤ length (act a xs)
grows bound None xs le = le
grows bound (Some (adds x)) xs le = omega (arith, le, length-append xs (x ∷ []))
grows bound (Some (alters n f)) xs le = omega (arith, le, changed_length n f xs)

-- what edits do to one list, each as one such act or none
abbrev pub acts : {A : Type 0} → (Edit → Option (Act A)) → List Edit → List A → List A
acts p [] xs = xs
acts p (e ∷ es) xs = acts p es (act (p e) xs)

all_grow : {A : Type 0} (p : Edit → Option (Act A)) (bound : ℕ) (es : List Edit) (xs : List A) → bound ≤ length xs → bound ≤ length (acts p es xs)
all_grow p bound [] xs le = le
all_grow p bound (e ∷ es) xs le = all_grow p bound es (act (p e) xs) (grows bound (p e) xs le)

swap_one : {A : Type 0} (p : Edit → Option (Act A)) (bound : ℕ) (a : Option (Act A)) (fs : List Edit) (xs : List A) → bound ≤ length xs → AllByRecursion (λ f. ActApart bound a (p f)) fs → acts p fs (act a xs) ≡ act a (acts p fs xs)
swap_one p bound a [] xs le h = refl
swap_one p bound a (f ∷ fs) xs le h =
    ap (λ (ys : List _). acts p fs ys) (swap bound a (p f) xs le h.0) ∙ swap_one p bound a fs (act (p f) xs) (grows bound (p f) xs le) h.1

-- two lists of edits that are apart in pairs
abbrev pub ActsApart : {A : Type 0} → (Edit → Option (Act A)) → ℕ → List Edit → List Edit → Type 0
ActsApart p bound es fs = AllByRecursion (λ e. AllByRecursion (λ f. ActApart bound (p e) (p f)) fs) es

pub swap_all : {A : Type 0} (p : Edit → Option (Act A)) (bound : ℕ) (es fs : List Edit) (xs : List A) → bound ≤ length xs → ActsApart p bound es fs → acts p fs (acts p es xs) ≡ acts p es (acts p fs xs)
swap_all p bound [] fs xs le h = refl
swap_all p bound (e ∷ es) fs xs le h =
    swap_all p bound es fs (act (p e) xs) (grows bound (p e) xs le) h.1 ∙ ap (λ (ys : List _). acts p es ys) (swap_one p bound (p e) fs xs le h.0)

pub set_is_changed : {A : Type 0} (xs : List A) (n : ℕ) (x : A) → slice_set xs n x ≡ changed_at n (λ y. x) xs
set_is_changed [] n x = refl
set_is_changed (y ∷ xs) zero x = refl
set_is_changed (y ∷ xs) (suc n) x = ap (λ (zs : List _). y ∷ zs) (set_is_changed xs n x)
