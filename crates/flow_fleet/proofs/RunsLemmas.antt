-- The numbers of a fleet's runs, and one run more.
use Rattle.std.proofs.Common.{◌≡◌, ◌↔◌, ◌⊎◌, Bool, true, false, get_or, inl, inr, ℕ, zero, suc, ◌<◌, ◌≤◌, ◌^◌, List, [], ◌∷◌, ◌++◌, length, length-append, refl, sym, ◌∙◌, ap, subst, arith}
use Rattle.std.specs.Prelude.{Any, Contains, IsTrue, Some, slice_get}
use Rattle.std.proofs.lemmas.List.Elements.{Contains-get_or}
use Rattle.std.proofs.lemmas.Option.{get_or_from_slice_get, slice_get_within}
use Rattle.flow_core_rules.specs.Givens.{Given}
use Rattle.flow_laws.proofs.Basics.{same_some}
use Rattle.flow_fleet_steps.specs.Openings.{Runs, numbers}
use Rattle.flow_fleet.specs.Fleets.{AreFleetRuns}

-- it is the last one, or one of the others
last_or : (xs : List ℕ) (y place run : ℕ) → slice_get (xs ++ y ∷ []) place ≡ Some run → (slice_get xs place ≡ Some run) ⊎ ((place ≡ length xs) × (run ≡ y))
last_or [] y zero run e = inr (refl, same_some (sym e))
last_or [] y (suc k) run e = absurd (cc)
last_or (x ∷ xs) y zero run e = inl e
last_or (x ∷ xs) y (suc k) run e = elim (last_or xs y k run e) [
  | inl there ↦ inl there
  | inr here ↦ inr (ap suc here.0, here.1)
]

contains_at : (xs : List ℕ) (place run : ℕ) → slice_get xs place ≡ Some run → Contains xs run
contains_at xs place run e = subst (λ (n : ℕ). Contains xs n) (get_or_from_slice_get xs place run 0 e) (Contains-get_or xs place 0 (slice_get_within xs place run e))

numbers_more : (runs : Runs) (run : ℕ) (given : Given) → numbers (runs ++ (run, given) ∷ []) ≡ numbers runs ++ run ∷ []
numbers_more [] run given = refl
numbers_more (r ∷ runs) run given = ap (λ (l : List ℕ). r.0 ∷ l) (numbers_more runs run given)

module _ (runs : Runs) (run : ℕ) (given : Given) (is : AreFleetRuns runs) (few : length runs < 16) (fresh : Contains (numbers runs) run → ⊥) (small : run < 2 ^ 64) where
  which : (place r : ℕ) → slice_get (numbers (runs ++ (run, given) ∷ [])) place ≡ Some r → (slice_get (numbers runs) place ≡ Some r) ⊎ ((place ≡ length (numbers runs)) × (r ≡ run))
  which place r e = last_or (numbers runs) run place r (subst (λ (l : List ℕ). slice_get l place ≡ Some r) (numbers_more runs run given) e)

  not_both : (place r : ℕ) → slice_get (numbers runs) place ≡ Some r → r ≡ run → ⊥
  not_both place r there same = fresh (subst (λ (n : ℕ). Contains (numbers runs) n) same (contains_at (numbers runs) place r there))

  pub one_more : AreFleetRuns (runs ++ (run, given) ∷ [])
  one_more = record {
    some = let long = length-append runs ((run, given) ∷ []) in omega (arith, long);
    few = let long = length-append runs ((run, given) ∷ []) in omega (arith, long, few);
    small = λ place r e. elim (which place r e) [
      | inl there ↦ is.small place r there
      | inr here ↦ subst (λ (n : ℕ). n < 2 ^ 64) (sym here.1) small
    ];
    once = λ place other r e f. elim (which place r e) [
      | inl there ↦ elim (which other r f) [
        | inl same ↦ is.once place other r there same
        | inr last ↦ absurd (not_both place r there last.1)
      ]
      | inr here ↦ elim (which other r f) [
        | inl same ↦ absurd (not_both other r same here.1)
        | inr last ↦ last.0 ∙ sym here.0
      ]
    ];
  }

-- one alone
pub one_run : (run : ℕ) (given : Given) → run < 2 ^ 64 → AreFleetRuns ((run, given) ∷ [])
one_run run given small = record {
  some = omega arith;
  few = omega arith;
  small = λ place r e. elim (last_or [] run place r e) [
    | inl there ↦ absurd (nothing place r there)
    | inr here ↦ subst (λ (n : ℕ). n < 2 ^ 64) (sym here.1) small
  ];
  once = λ place other r e f. at_front other r f ∙ sym (at_front place r e);
}
  where
    nothing : (place r : ℕ) → slice_get {X = ℕ} [] place ≡ Some r → ⊥
    nothing place r e = cc

    at_front : (place r : ℕ) → slice_get (run ∷ []) place ≡ Some r → place ≡ 0
    at_front place r e = elim (last_or [] run place r e) [ inl there ↦ absurd (nothing place r there) | inr here ↦ here.0 ]

-- ---- whether one has a number

numbers_long : (runs : Runs) → length (numbers runs) ≡ length runs
numbers_long [] = refl
numbers_long (r ∷ runs) = ap suc (numbers_long runs)

number_at : (runs : Runs) (k d : ℕ) (e : ℕ × Given) → k < length runs → get_or (numbers runs) k d ≡ (get_or runs k e).0
number_at [] k d e lt = absurd (omega (arith, lt))
number_at (r ∷ runs) zero d e lt = refl
number_at (r ∷ runs) (suc k) d e lt = number_at runs k d e (omega (arith, lt))

get_or-any : (runs : Runs) (k : ℕ) (d e : ℕ × Given) → k < length runs → get_or runs k e ≡ get_or runs k d
get_or-any [] k d e lt = absurd (omega (arith, lt))
get_or-any (r ∷ runs) zero d e lt = refl
get_or-any (r ∷ runs) (suc k) d e lt = get_or-any runs k d e (omega (arith, lt))

has_number : (runs : Runs) (run : ℕ) → Any (λ (one : ℕ × Given). one.0 ≡ run) runs → Contains (numbers runs) run
has_number runs run h =
    let long = numbers_long runs in
    let lt = h.2 in
    (h.0, omega (arith, long, lt), number_at runs h.0 run h.1 h.2 ∙ ap (λ (one : ℕ × Given). one.0) h.3 ∙ h.4)

of_number : (runs : Runs) (run : ℕ) → Contains (numbers runs) run → Any (λ (one : ℕ × Given). one.0 ≡ run) runs
of_number [] run h = absurd (none h.0 h.1)
  where
    none : (k : ℕ) → k < 0 → ⊥
    none k lt = absurd (omega (arith, lt))
of_number (r ∷ runs) run h =
    let long = numbers_long (r ∷ runs) in
    let lt = h.1 in
    let within : h.0 < length (r ∷ runs) = omega (arith, long, lt) in
    (h.0, get_or (r ∷ runs) h.0 r, within, get_or-any (r ∷ runs) h.0 r (get_or (r ∷ runs) h.0 r) within, sym (number_at (r ∷ runs) h.0 run r within) ∙ h.2)

pub among_iff : (b : Bool) (runs : Runs) (run : ℕ) → IsTrue b ↔ Any (λ (one : ℕ × Given). one.0 ≡ run) runs → IsTrue b ↔ Contains (numbers runs) run
among_iff b runs run is = (λ t. has_number runs run (is.0 t), λ h. is.1 (of_number runs run h))

pub not_among : (b : Bool) (items runs : Runs) (run : ℕ) → items ≡ runs → b ≡ false → IsTrue b ↔ Contains (numbers runs) run → Contains (numbers items) run → ⊥
not_among b items runs run same not is h =
    let held : IsTrue b = is.1 (subst (λ (l : Runs). Contains (numbers l) run) same h) in
    let e : false ≡ true = sym not ∙ held in
    absurd (cc)
