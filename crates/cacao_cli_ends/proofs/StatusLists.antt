-- Statuses in lists.
use Rattle.std.proofs.Common.{◌≡◌, inl, inr, ◌∙◌, refl, sym, subst, arith, ℕ, ◌||◌, Bool, true, false, List, [], ◌∷◌}
use Rattle.std.specs.Prelude.{if◌then◌else◌, nat_eq}
use Rattle.std.specs.List.{list_any}
use Rattle.std.proofs.lemmas.Bool.{true≢false}
use Rattle.cacao_cli_ends.specs.Comes.{IsOneOf}

-- the statuses of a call that came to its session, but for faults of the shelf
abbrev pub session_statuses : List ℕ
session_statuses = 0 ∷ 6 ∷ 7 ∷ 8 ∷ 9 ∷ 10 ∷ 11 ∷ 12 ∷ 13 ∷ 14 ∷ 15 ∷ 16 ∷ []

-- of which the files and the clock do not always tell which came: a limit that would be passed, too many parcels, a question
abbrev pub parcel_statuses : List ℕ
parcel_statuses = 11 ∷ 15 ∷ 16 ∷ []

abbrev pub is_among : ℕ → List ℕ → Bool
is_among n ms = list_any (nat_eq n) ms

among-true : (n : ℕ) (ms : List ℕ) → IsOneOf n ms → is_among n ms ≡ true
among-true n [] h = absurd h
among-true n (m ∷ ms) (inl e) = let same : nat_eq n m ≡ true = grind (arith, e) in rw same refl
among-true n (m ∷ ms) (inr h) = rest (nat_eq n m) (among-true n ms h)
  where
    rest : (b : Bool) → is_among n ms ≡ true → (b || is_among n ms) ≡ true
    rest true e = refl
    rest false e = e

-- a number is not in a list that has others alone
pub not-among : (n : ℕ) (ms : List ℕ) → list_any (nat_eq n) ms ≡ false → IsOneOf n ms → ⊥
not-among n ms none h = true≢false (sym (among-true n ms h) ∙ none)

-- a number that computes to be in a list is in it
is-there : (n : ℕ) (ms : List ℕ) → is_among n ms ≡ true → IsOneOf n ms
is-there n [] e = absurd (true≢false (sym e))
is-there n (m ∷ ms) e = go (nat_eq n m) refl e (is-there n ms)
  where
    go : (b : Bool) → b ≡ nat_eq n m → (b || is_among n ms) ≡ true → (is_among n ms ≡ true → IsOneOf n ms) → IsOneOf n (m ∷ ms)
    go true is e rest = inl (grind (arith, is))
    go false is e rest = inr (rest e)

-- each number of the first list is in the second
abbrev pub are_among : List ℕ → List ℕ → Bool
are_among [] ns = true
are_among (m ∷ ms) ns = if is_among m ns then are_among ms ns else false

-- so one of the first is one of the second
pub widen : (n : ℕ) (ms ns : List ℕ) → are_among ms ns ≡ true → IsOneOf n ms → IsOneOf n ns
widen n [] ns all h = absurd h
widen n (m ∷ ms) ns all h = go (is_among m ns) refl all h (widen n ms ns)
  where
    go : (b : Bool) → b ≡ is_among m ns → (if b then are_among ms ns else false) ≡ true → IsOneOf n (m ∷ ms) → (are_among ms ns ≡ true → IsOneOf n ms → IsOneOf n ns) → IsOneOf n ns
    go true is all (inl e) rest = subst (λ (k : ℕ). IsOneOf k ns) (sym e) (is-there m ns (sym is))
    go true is all (inr h) rest = rest all h
    go false is all h rest = absurd (true≢false (sym all))

-- no number of the first list is in the second
abbrev pub are_apart : List ℕ → List ℕ → Bool
are_apart [] ns = true
are_apart (m ∷ ms) ns = if is_among m ns then false else are_apart ms ns

-- so one of the first is none of the second
pub apart-lists : (n : ℕ) (ms ns : List ℕ) → are_apart ms ns ≡ true → IsOneOf n ms → IsOneOf n ns → ⊥
apart-lists n [] ns none h g = h
apart-lists n (m ∷ ms) ns none h g = go (is_among m ns) refl none h (λ rest one. apart-lists n ms ns rest one g)
  where
    go : (b : Bool) → b ≡ is_among m ns → (if b then false else are_apart ms ns) ≡ true → IsOneOf n (m ∷ ms) → (are_apart ms ns ≡ true → IsOneOf n ms → ⊥) → ⊥
    go true is none h rest = true≢false (sym none)
    go false is none (inl e) rest = not-among m ns (sym is) (subst (λ (k : ℕ). IsOneOf k ns) e g)
    go false is none (inr h) rest = rest none h
