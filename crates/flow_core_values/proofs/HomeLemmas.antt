-- Homes of names: those of a run's scopes are found along the parents, also once one more scope is open.
use Rattle.std.proofs.Common.{◌≡◌, ℕ, zero, suc, ◌<◌, Bool, true, false, List, [], ◌∷◌, ◌++◌, length, length-append, Option, Some, None, is_some, arith, inl, inr, refl, sym, ◌∙◌, ap, subst}
use Rattle.std.specs.Prelude.{IfSome, slice_get, option_and_then}
use Rattle.std.proofs.lemmas.Bool.{cases_lt, cases_eq}
use Rattle.std.proofs.lemmas.Option.{slice_get_past}
use Rattle.cacao_vars.specs.declared.scoping.Scope.{Scope}
use Rattle.cacao_vars.specs.Declarations.{declared}
use Rattle.cacao_vars.specs.Scopes.{HasParentsBefore, parent_of, declaration, home}
use Rattle.cacao_vars.proofs.ScopeLemmas.{home_here, home_outer, home_none}
use Rattle.flow_core_rules.specs.State.{Shown}
use Rattle.flow_core_rules.specs.Sane.{IsSane, IsSaneScope}

-- ---- the scopes around those of a run are earlier

earlier_at : (n : ℕ) (o : Option Scope) → ((scope : Scope) → o ≡ Some scope → IsSaneScope n scope) → IfSome (option_and_then (λ (s : Scope). s.parent) o) (λ p. p < n)
earlier_at n None sane = tt
earlier_at n (Some scope) sane = sane scope refl

pub parents_before : (s : Shown) → IsSane s → HasParentsBefore s.lists.scopes
parents_before s sane scope = earlier_at scope (slice_get s.lists.scopes scope) (sane.scopes scope)

-- ---- one more scope

pub get_front : {X : Type 0} (xs : List X) (y : X) (k : ℕ) → k < length xs → slice_get (xs ++ y ∷ []) k ≡ slice_get xs k
get_front [] y k lt = absurd (omega arith)
get_front (x ∷ xs) y zero lt = refl
get_front (x ∷ xs) y (suc k) lt = get_front xs y k (omega arith)

pub get_last : {X : Type 0} (xs : List X) (y : X) → slice_get (xs ++ y ∷ []) (length xs) ≡ Some y
get_last [] y = refl
get_last (x ∷ xs) y = get_last xs y

module _ (scopes : List Scope) (new : Scope) (before : HasParentsBefore scopes) (inside : IfSome new.parent (λ p. p < length scopes)) where
  after : List Scope
  after = scopes ++ new ∷ []

  same_parent : (k : ℕ) → k < length scopes → parent_of after k ≡ parent_of scopes k
  unfolding after
  same_parent k lt = ap (λ (o : Option Scope). option_and_then (λ (s : Scope). s.parent) o) (get_front scopes new k lt)

  same_declaration : (k : ℕ) (name : List ℕ) → k < length scopes → declaration after k name ≡ declaration scopes k name
  unfolding after
  same_declaration k name lt = ap (λ (o : Option Scope). option_and_then (λ (s : Scope). declared s.vars name) o) (get_front scopes new k lt)

  new_parent : parent_of after (length scopes) ≡ new.parent
  unfolding after
  new_parent = ap (λ (o : Option Scope). option_and_then (λ (s : Scope). s.parent) o) (get_last scopes new)

  new_declaration : (name : List ℕ) → declaration after (length scopes) name ≡ declared new.vars name
  unfolding after
  new_declaration name = ap (λ (o : Option Scope). option_and_then (λ (s : Scope). declared s.vars name) o) (get_last scopes new)

  after_before : HasParentsBefore after
  unfolding after
  after_before k = elim (cases_lt k (length scopes)) [
    | inl lt ↦ subst (λ o. IfSome o (λ p. p < k)) (sym (same_parent k lt)) (before k)
    | inr ge ↦ elim (cases_eq k (length scopes)) [
      | inl here ↦
          let at : parent_of after k ≡ new.parent = ap (parent_of after) here ∙ new_parent in
          subst (λ o. IfSome o (λ p. p < k)) (sym at) (subst (λ n. IfSome new.parent (λ p. p < n)) (sym here) inside)
      | inr ne ↦
          let past : slice_get (scopes ++ new ∷ []) k ≡ None = slice_get_past (scopes ++ new ∷ []) k (omega (arith, ne, length-append scopes (new ∷ []))) in
          subst (λ o. IfSome o (λ p. p < k)) (sym (ap (λ (o : Option Scope). option_and_then (λ (s : Scope). s.parent) o) past)) tt
    ]
  ]

  -- by the scope's own declaration, else by its parent
  stays_at : (k : ℕ) (name : List ℕ) → k < length scopes → ((p : ℕ) → p < k → home after p name ≡ home scopes p name)
      → (b : Bool) (o : Option ℕ) → is_some (declaration scopes k name) ≡ b → parent_of scopes k ≡ o → IfSome o (λ p. p < k)
      → home after k name ≡ home scopes k name
  stays_at k name lt earlier true o e p less =
      home_here after k name (ap is_some (same_declaration k name lt) ∙ e) ∙ sym (home_here scopes k name e)
  stays_at k name lt earlier false None e p less =
      home_none after k name (ap is_some (same_declaration k name lt) ∙ e) (same_parent k lt ∙ p) ∙ sym (home_none scopes k name e p)
  stays_at k name lt earlier false (Some parent) e p less =
      home_outer after k parent name after_before (ap is_some (same_declaration k name lt) ∙ e) (same_parent k lt ∙ p) less
      ∙ earlier parent less ∙ sym (home_outer scopes k parent name before e p less)

  stays_below : (n k : ℕ) (name : List ℕ) → k < n → k < length scopes → home after k name ≡ home scopes k name
  stays_below zero k name lt within = absurd (omega arith)
  stays_below (suc n) k name lt within =
      stays_at k name within (λ p less. stays_below n p name (omega arith) (omega arith)) (is_some (declaration scopes k name)) (parent_of scopes k) refl refl (before k)

  pub home_around : (name : List ℕ) (p : ℕ) → new.parent ≡ Some p → p < length scopes → is_some (declared new.vars name) ≡ false
      → home (scopes ++ new ∷ []) (length scopes) name ≡ home scopes p name
  unfolding after
  home_around name p is lt e =
      home_outer after (length scopes) p name after_before (ap is_some (new_declaration name) ∙ e) (new_parent ∙ is) lt ∙ stays_below (suc p) p name (omega arith) lt
