-- Guards inside which places stand.
use Rattle.std.proofs.Common.{◌≡◌, ◌⊎◌, inl, inr, ℕ, ◌+◌, ◌<◌, ◌≤◌, Bool, true, false, List, [], length, set, Option, Some, None, IfSome, Contains, refl, sym, ◌∙◌, ap, subst, arith, get_or-set_same, get_or-set_other}
use Rattle.std.specs.Prelude.{unwrap_or}
use Rattle.std.proofs.lemmas.Bool.{cases_eq, cases_lt}
use Rattle.std.proofs.lemmas.List.{get_or_past}
use Rattle.base_graphs.specs.Closure.{Closure}
use Rattle.base_graphs.specs.Closure.Closure.{first, onward}
use Rattle.base_graphs.specs.Tables.{IsMarked, row}
use Rattle.base_graphs.proofs.MarkLemmas.{Contains-nil}
use Rattle.base_graphs.specs.Nests.{LeadsBeside, inner_of, IsInside, TellsGuards, HasJumps, Fits, AllFit, StandsFree}
use Rattle.base_graphs.specs.Nests.IsInside.{nearest, further}

pub inside_both : (inner : List (Option ℕ)) {place between guard : ℕ} → IsInside inner place between → IsInside inner between guard → IsInside inner place guard
inside_both inner (nearest e) h = further e h
inside_both inner (further e i) h = further e (inside_both inner i h)

-- what a place tells of an innermost guard
inside_none : (inner : List (Option ℕ)) {place guard : ℕ} → inner_of inner place ≡ None → IsInside inner place guard → ⊥
inside_none inner none (nearest e) = absurd (cc)
inside_none inner none (further e i) = absurd (cc)

innermost : (inner : List (Option ℕ)) {place guard : ℕ} → IsInside inner place guard → (between : ℕ) × (inner_of inner place ≡ Some between) × ((between ≡ guard) ⊎ IsInside inner between guard)
innermost inner (nearest {guard} e) = (guard, e, inl refl)
innermost inner (further {between} e i) = (between, e, inr i)

-- ---- one more guard is told

module _ (inner : List (Option ℕ)) (at guard : ℕ) (none : inner_of inner at ≡ None) where
  kept : (place between : ℕ) → inner_of inner place ≡ Some between → inner_of (set inner at (Some guard)) place ≡ Some between
  kept place between e = get_or-set_other inner at place (Some guard) None (λ same. absurd (let h : inner_of inner place ≡ None = ap (inner_of inner) same ∙ none in cc)) ∙ e

  inside_more : {place outer : ℕ} → IsInside inner place outer → IsInside (set inner at (Some guard)) place outer
  inside_more (nearest {place} {guard = outer} e) = nearest (kept place outer e)
  inside_more (further {place} {between} e i) = further (kept place between e) (inside_more i)

  pub jumps_more : (jumps : List (Option ℕ)) (past : Option ℕ) (jump : ℕ) → at < length inner → at < length jumps → IfSome past (λ outer. IsInside inner guard outer) → jump ≡ unwrap_or past guard → HasJumps inner jumps → HasJumps (set inner at (Some guard)) (set jumps at (Some jump))
  jumps_more jumps past jump lt room far is has place outer e = elim (cases_eq place at) [
    | inl same ↦
        let one : Some jump ≡ Some outer = sym (get_or-set_same jumps at (Some jump) None room) ∙ ap (inner_of (set jumps at (Some jump))) (sym same) ∙ e in
        let j : jump ≡ outer = cc in
        subst (λ p. IsInside (set inner at (Some guard)) p outer) (sym same) (subst (IsInside (set inner at (Some guard)) at) j (here past far is))
    | inr other ↦ inside_more (has place outer (sym (get_or-set_other jumps at place (Some jump) None other) ∙ e))
  ]
    where
      told : inner_of (set inner at (Some guard)) at ≡ Some guard
      told = get_or-set_same inner at (Some guard) None lt

      here : (past : Option ℕ) → IfSome past (λ outer. IsInside inner guard outer) → jump ≡ unwrap_or past guard → IsInside (set inner at (Some guard)) at jump
      here None far is = subst (IsInside (set inner at (Some guard)) at) (sym is) (nearest told)
      here (Some outer) far is = subst (IsInside (set inner at (Some guard)) at) (sym is) (further told (inside_more far))

-- ---- what the test shows

module _ (free guarded : List (List ℕ)) (begin : List ℕ) (found : List Bool) (inner : List (Option ℕ)) (stands : (place : ℕ) → Contains begin place → StandsFree found inner place) (fits : AllFit false found inner free) (fits_guarded : AllFit true found inner guarded) where
  -- what is reached beside a guard was found, and is not inside the guard
  reached_found : (guard : ℕ) {place : ℕ} → Closure (Contains begin) (LeadsBeside free guarded guard) place → IsMarked found place
  reached_found guard {place} (first c) = (stands place c).0
  reached_found guard {place} (onward {from} c (inl e)) = (fits from place (reached_found guard c) e).0
  reached_found guard {place} (onward {from} c (inr e)) = (fits_guarded from place (reached_found guard c) e.1).0

  onward_inside : (is_guarded : Bool) (guard from place : ℕ) → ((is_guarded ≡ true) → from ≡ guard → ⊥) → Fits is_guarded found inner from place → IsInside inner place guard → IsInside inner from guard
  onward_inside is_guarded guard from place other fit i = let at : (between : ℕ) × (inner_of inner place ≡ Some between) × ((between ≡ guard) ⊎ IsInside inner between guard) = innermost inner i in elim (fit.1 at.0 at.1) [
    | inl own ↦ elim at.2 [
      | inl same ↦ absurd (other own.0 (own.1 ∙ same))
      | inr outer ↦ subst (λ p. IsInside inner p guard) (sym own.1) outer
    ]
    | inr inside ↦ elim at.2 [ inl same ↦ subst (IsInside inner from) same inside | inr outer ↦ inside_both inner inside outer ]
  ]

  stands_beside : (guard : ℕ) {place : ℕ} → Closure (Contains begin) (LeadsBeside free guarded guard) place → IsInside inner place guard → ⊥
  stands_beside guard {place} (first c) i = inside_none inner (stands place c).1 i
  stands_beside guard {place} (onward {from} c (inl e)) i = stands_beside guard c (onward_inside false guard from place (λ no. absurd (cc)) (fits from place (reached_found guard c) e) i)
  stands_beside guard {place} (onward {from} c (inr e)) i = stands_beside guard c (onward_inside true guard from place (λ yes. e.0) (fits_guarded from place (reached_found guard c) e.1) i)

  pub tells_guards : TellsGuards free guarded begin inner
  tells_guards place guard i c = stands_beside guard c i

pub tells_nothing : (free guarded : List (List ℕ)) (begin : List ℕ) (inner : List (Option ℕ)) → inner ≡ [] → TellsGuards free guarded begin inner
tells_nothing free guarded begin inner e place guard i = absurd (inside_none inner (ap (λ v. inner_of v place) e) i)

-- ---- the test, one more edge at a time

-- the same for the places below n
abbrev pub AllFitBelow : ℕ → Bool → List Bool → List (Option ℕ) → List (List ℕ) → Type 0
AllFitBelow n is_guarded found inner table = (from to : ℕ) → from < n → IsMarked found from → Contains (row table from) to → Fits is_guarded found inner from to

pub all_fit_more : (n : ℕ) (is_guarded : Bool) (found : List Bool) (inner : List (Option ℕ)) (table : List (List ℕ)) (r : List ℕ) → r ≡ row table n → ((to : ℕ) → IsMarked found n → Contains r to → Fits is_guarded found inner n to)
    → AllFitBelow n is_guarded found inner table → AllFitBelow (n + 1) is_guarded found inner table
all_fit_more n is_guarded found inner table r is here done from to lt m c = elim (cases_lt from n) [
  | inl before ↦ done from to before m c
  | inr ge ↦ let e : from ≡ n = omega arith in
      subst (λ f. Fits is_guarded found inner f to) (sym e) (here to (subst (IsMarked found) e m) (subst (λ v. Contains v to) (sym is) (subst (λ f. Contains (row table f) to) e c)))
]

pub all_fit_all : (n : ℕ) (is_guarded : Bool) (found : List Bool) (inner : List (Option ℕ)) (table : List (List ℕ)) → length table ≤ n → AllFitBelow n is_guarded found inner table → AllFit is_guarded found inner table
all_fit_all n is_guarded found inner table over done from to m c = elim (cases_lt from (length table)) [
  | inl lt ↦ done from to (omega (arith, over, lt)) m c
  | inr ge ↦ absurd (Contains-nil to (subst (λ v. Contains v to) (get_or_past table from [] ge) c))
]
