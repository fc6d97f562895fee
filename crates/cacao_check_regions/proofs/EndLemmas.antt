-- The places of the steps at which a path can end, one step at a time.
use Rattle.std.proofs.Common.{◌≡◌, ◌↔◌, ◌⊎◌, inl, inr, ℕ, zero, suc, ◌+◌, ◌<◌, ◌≤◌, List, [], ◌∷◌, length, get_or, slice_get, Contains, Some, sym, subst, arith}
use Rattle.std.specs.Prelude.{IsSomeAnd, All}
use Rattle.std.proofs.lemmas.Bool.{cases_eq}
use Rattle.std.proofs.lemmas.List.Elements.{Contains-get_or}
use Rattle.cacao_book.specs.declared.steps.Step.{Step}
use Rattle.cacao_check_regions.specs.Endings.{CanEnd}

abbrev pub EndsAt : List Step → ℕ → Type 0
EndsAt steps place = IsSomeAnd (slice_get steps place) CanEnd

-- the list has the places below n at which a path can end
abbrev pub EndsBelow : List Step → ℕ → List ℕ → Type 0
EndsBelow steps n places = (place : ℕ) → Contains places place ↔ (place < n × EndsAt steps place)

ends_here : (steps : List Step) (n : ℕ) (s : Step) → slice_get steps n ≡ Some s → CanEnd s ↔ EndsAt steps n
ends_here steps n s at = (λ h. rw at h, λ h. rw at at h)

pub EndsBelow-more : (steps : List Step) (n : ℕ) (s : Step) (places more : List ℕ) → slice_get steps n ≡ Some s → EndsBelow steps n places → ((p : ℕ) → Contains more p ↔ (Contains places p ⊎ ((n ≡ p) × CanEnd s))) → EndsBelow steps (n + 1) more
EndsBelow-more steps n s places more at done adds p = (
  λ c. elim ((adds p).0 c) [
    | inl old ↦ let d : p < n × EndsAt steps p = (done p).0 old in (let lt : p < n = d.0 in omega arith, d.1)
    | inr new ↦ (let e : n ≡ p = new.0 in omega arith, subst (EndsAt steps) new.0 ((ends_here steps n s at).0 new.1))
  ],
  λ h. elim (cases_eq p n) [
    | inl same ↦ (adds p).1 (inr (sym same, (ends_here steps n s at).1 (subst (EndsAt steps) same h.1)))
    | inr other ↦ (adds p).1 (inl ((done p).1 (let lt : p < n + 1 = h.0 in omega arith, h.1)))
  ],
)

past_end : (steps : List Step) (p : ℕ) → EndsAt steps p → p < length steps
past_end [] p h = absurd h
past_end (s ∷ steps) zero h = omega arith
past_end (s ∷ steps) (suc p) h = let lt : p < length steps = past_end steps p h in omega arith

pub EndsBelow-all : (steps : List Step) (n : ℕ) (places : List ℕ) → length steps ≤ n → EndsBelow steps n places → (p : ℕ) → Contains places p ↔ EndsAt steps p
EndsBelow-all steps n places over done p = (λ c. ((done p).0 c).1, λ h. (done p).1 (let lt = past_end steps p h in omega arith, h))

pub EndsBelow-within : (steps : List Step) (n : ℕ) (places : List ℕ) → EndsBelow steps n places → All (λ p. p < length steps) places
EndsBelow-within steps n places done k d lt = past_end steps (get_or places k d) ((done (get_or places k d)).0 (Contains-get_or places k d lt)).1
