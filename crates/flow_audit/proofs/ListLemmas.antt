-- Elements of lists by their places.
use Rattle.std.proofs.Common.{◌≡◌, ◌⊎◌, inl, inr, ℕ, zero, suc, ◌<◌, ◌≤◌, List, [], ◌∷◌, ◌++◌, length, take, Some, refl, sym, ap, subst, ◌∙◌, arith}
use Rattle.std.specs.Prelude.{All, Contains, slice_get}
use Rattle.std.proofs.lemmas.Option.{get_or_from_slice_get, none-some, slice_get-get_or, slice_get_within}

module _ {T : Type 0} where
  -- what stands at a place of a list with one element more
  pub get_push : (xs : List T) (y : T) (n : ℕ) (x : T) → slice_get (xs ++ y ∷ []) n ≡ Some x → ((n < length xs) × (slice_get xs n ≡ Some x)) ⊎ ((n ≡ length xs) × (y ≡ x))
  get_push [] y zero x is = inr (refl, cc)
  get_push [] y (suc n) x is = absurd (cc)
  get_push (z ∷ xs) y zero x is = inl (omega arith, is)
  get_push (z ∷ xs) y (suc n) x is = elim (get_push xs y n x is) [
    | inl old ↦ inl (omega (arith, old.0), old.1)
    | inr new ↦ inr (omega (arith, new.0), new.1)
  ]

  pub get_front : (xs : List T) (y : T) (n : ℕ) (x : T) → slice_get xs n ≡ Some x → slice_get (xs ++ y ∷ []) n ≡ Some x
  get_front [] y n x is = absurd (none-some x is)
  get_front (z ∷ xs) y zero x is = is
  get_front (z ∷ xs) y (suc n) x is = get_front xs y n x is

  pub get_last : (xs : List T) (y : T) → slice_get (xs ++ y ∷ []) (length xs) ≡ Some y
  get_last [] y = refl
  get_last (z ∷ xs) y = get_last xs y

  -- there is an element at each place within
  pub get_there : (xs : List T) (n : ℕ) → n < length xs → (x : T) × (slice_get xs n ≡ Some x)
  get_there [] n lt = absurd (omega (arith, lt))
  get_there (x ∷ xs) zero lt = (x, refl)
  get_there (x ∷ xs) (suc n) lt = get_there xs n (omega (arith, lt))

  pub get_none : (n : ℕ) (x : T) → slice_get [] n ≡ Some x → ⊥
  get_none n x is = none-some x is

  pub get_one : (xs : List T) (n : ℕ) (x y : T) → slice_get xs n ≡ Some x → slice_get xs n ≡ Some y → x ≡ y
  get_one xs n x y p q = let e : Some x ≡ Some y = sym p ∙ q in cc

  -- a front up to an element, and with it
  pub take_next : (xs : List T) (n : ℕ) (x : T) → slice_get xs n ≡ Some x → take (suc n) xs ≡ take n xs ++ x ∷ []
  take_next [] n x is = absurd (none-some x is)
  take_next (y ∷ xs) zero x is = ap (λ z. z ∷ []) (let e : Some y ≡ Some x = is in cc)
  take_next (y ∷ xs) (suc n) x is = ap (λ l. y ∷ l) (take_next xs n x is)

  pub get_take : (xs : List T) (n k : ℕ) (x : T) → slice_get (take n xs) k ≡ Some x → (k < n) × (slice_get xs k ≡ Some x)
  get_take xs zero k x is = absurd (none-some x is)
  get_take [] (suc n) k x is = absurd (none-some x is)
  get_take (y ∷ xs) (suc n) zero x is = (omega arith, is)
  get_take (y ∷ xs) (suc n) (suc k) x is = let rest = get_take xs n k x is in (omega (arith, rest.0), rest.1)

  pub take_get : (xs : List T) (n k : ℕ) (x : T) → k < n → slice_get xs k ≡ Some x → slice_get (take n xs) k ≡ Some x
  take_get xs zero k x lt is = absurd (omega (arith, lt))
  take_get [] (suc n) k x lt is = absurd (none-some x is)
  take_get (y ∷ xs) (suc n) zero x lt is = is
  take_get (y ∷ xs) (suc n) (suc k) x lt is = take_get xs n k x (omega (arith, lt)) is

  pub take_take : (xs : List T) (n k : ℕ) → k ≤ n → take k (take n xs) ≡ take k xs
  take_take xs n zero le = refl
  take_take xs zero (suc k) le = absurd (omega (arith, le))
  take_take [] (suc n) (suc k) le = refl
  take_take (y ∷ xs) (suc n) (suc k) le = ap (λ l. y ∷ l) (take_take xs n k (omega (arith, le)))

  pub take_length : (xs : List T) (n : ℕ) → n ≤ length xs → length (take n xs) ≡ n
  take_length xs zero le = refl
  take_length [] (suc n) le = absurd (omega (arith, le))
  take_length (y ∷ xs) (suc n) le = ap suc (take_length xs n (omega (arith, le)))

  pub got : (xs : List T) (n : ℕ) (x : T) → slice_get xs n ≡ Some x → Contains xs x
  got xs n x is = (n, slice_get_within xs n x is, get_or_from_slice_get xs n x x is)

  pub place_of : (xs : List T) (x : T) → Contains xs x → (n : ℕ) × (slice_get xs n ≡ Some x)
  place_of xs x has = (has.0, slice_get-get_or xs has.0 x has.1 ∙ ap (λ (y : T). Some y) has.2)

  pub first_is : (xs : List T) (x : T) → slice_get xs 0 ≡ Some x → (others : List T) × (xs ≡ x ∷ others)
  first_is [] x is = absurd (none-some x is)
  first_is (y ∷ xs) x is = (xs, ap (λ z. z ∷ xs) (let e : Some y ≡ Some x = is in cc))

  pub all_get : (P : T → Type 0) (xs : List T) (n : ℕ) (x : T) → slice_get xs n ≡ Some x → All P xs → P x
  all_get P xs n x is all = subst P (get_or_from_slice_get xs n x x is) (all n x (slice_get_within xs n x is))
