-- Lists that go together, and lists that are gone through.
use Rattle.std.proofs.Common.{◌≡◌, ◌⊎◌, inl, inr, ℕ, zero, suc, ◌+◌, ◌<◌, List, [], ◌∷◌, ◌++◌, length, map, get_or, Some, Contains, slice_get, refl, sym, ◌∙◌, ap, subst, arith, length-append}
use Rattle.std.specs.List.{flat_map}
use Rattle.std.proofs.lemmas.List.Elements.{Contains-append_left, Contains-append_right, Contains-append_cases}
use Rattle.cacao_check_steps.specs.Pairing.{EachPair}

-- what stands at a place of a list with one more item
get_pushed : {Y : Type 0} (ys : List Y) (new : Y) (k : ℕ) (y : Y) → slice_get (ys ++ new ∷ []) k ≡ Some y → (slice_get ys k ≡ Some y) ⊎ ((k ≡ length ys) × (new ≡ y))
get_pushed [] new zero y e = inr (refl, cc)
get_pushed [] new (suc k) y e = absurd (cc)
get_pushed (z ∷ zs) new zero y e = inl e
get_pushed (z ∷ zs) new (suc k) y e = elim (get_pushed zs new k y e) [ inl old ↦ inl old | inr last ↦ inr (let n : k ≡ length zs = last.0 in omega arith, last.1) ]

pub EachPair-more : {X Y : Type 0} (R : X → Y → Type 0) (xs : List X) (ys : List Y) (x : X) (y : Y) → slice_get xs (length ys) ≡ Some x → R x y → EachPair R xs ys → EachPair R xs (ys ++ y ∷ [])
EachPair-more R xs ys x y here r done k x' y' at e = elim (get_pushed ys y k y' e) [
  | inl old ↦ done k x' y' at old
  | inr last ↦ two R x x' y y' (some_is (sym here ∙ ap (slice_get xs) (sym last.0) ∙ at)) last.1 r
]
  where
    some_is : {Z : Type 0} {a b : Z} → Some a ≡ Some b → a ≡ b
    some_is h = cc

    two : {X Y : Type 0} (R : X → Y → Type 0) (a b : X) (c d : Y) → a ≡ b → c ≡ d → R a c → R b d
    two R a b c d e f r = subst (R b) f (subst (λ z. R z c) e r)

-- ---- what is in a joined list

pub Contains-none : {X : Type 0} (x : X) → Contains [] x → ⊥
Contains-none x c = let lt : c.0 < 0 = c.1 in omega arith

pub Contains-one : {X : Type 0} (z x : X) → Contains (z ∷ []) x → z ≡ x
Contains-one z x (zero, lt, e) = e
Contains-one z x (suc k, lt, e) = absurd (let h : suc k < 1 = lt in omega arith)

pub Contains-flat_map : {X Y : Type 0} (f : X → List Y) (xs : List X) (y : Y) (x : X) → Contains xs x → Contains (f x) y → Contains (flat_map f xs) y
Contains-flat_map f [] y x c d = absurd (Contains-none x c)
Contains-flat_map f (z ∷ zs) y x c d = elim (Contains-append_cases (z ∷ []) zs x c) [
  | inl here ↦ Contains-append_left (f z) (flat_map f zs) y (subst (λ w. Contains (f w) y) (sym (Contains-one z x here)) d)
  | inr there ↦ Contains-append_right (f z) (flat_map f zs) y (Contains-flat_map f zs y x there d)
]

pub flat_map-Contains : {X Y : Type 0} (f : X → List Y) (xs : List X) (y : Y) → Contains (flat_map f xs) y → (x : X) × Contains xs x × Contains (f x) y
flat_map-Contains f [] y c = absurd (Contains-none y c)
flat_map-Contains {X} f (z ∷ zs) y c = elim (Contains-append_cases (f z) (flat_map f zs) y c) [
  | inl here ↦ (z, Contains-append_left (z ∷ []) zs z (0, omega arith, refl), here)
  | inr there ↦ let d : (x : X) × Contains zs x × Contains (f x) y = flat_map-Contains f zs y there in (d.0, Contains-append_right (z ∷ []) zs d.0 d.1, d.2)
]

-- one more pair, and its count
pub Pairs-more : {X Y : Type 0} (R : X → Y → Type 0) (xs : List X) (ys ys' : List Y) (x : X) (y : Y) (i : ℕ) → ys' ≡ ys ++ y ∷ [] → length ys ≡ i → slice_get xs i ≡ Some x → R x y → EachPair R xs ys → (length ys' ≡ i + 1) × EachPair R xs ys'
Pairs-more {X} {Y} R xs ys ys' x y i pushed len here r done =
    let at : slice_get xs (length ys) ≡ Some x = ap (slice_get xs) len ∙ here in
    let P : List Y → Type 0 = λ zs. EachPair R xs zs in
    (ap length pushed ∙ length-append ys (y ∷ []) ∙ ap (λ n. n + 1) len, subst P (sym pushed) (EachPair-more R xs ys x y at r done))

-- what stands at one place of two lists that are seen alike
pub mapped_at : {X Y Z : Type 0} (f : X → Z) (g : Y → Z) (xs : List X) (ys : List Y) (i : ℕ) (x : X) (y : Y) → map f xs ≡ map g ys → i < length ys → x ≡ get_or xs i x → y ≡ get_or ys i y → f x ≡ g y
mapped_at f g xs [] i x y e lt atx aty = absurd (omega arith)
mapped_at f g [] (b ∷ bs) i x y e lt atx aty = absurd (cc)
mapped_at f g (a ∷ as') (b ∷ bs) zero x y e lt atx aty = ap f atx ∙ (let h : f a ≡ g b = cc in h) ∙ ap g (sym aty)
mapped_at f g (a ∷ as') (b ∷ bs) (suc i) x y e lt atx aty = mapped_at f g as' bs i x y (let h : map f as' ≡ map g bs = cc in h) (omega arith) atx aty
