-- What one more scope changes.
use Rattle.std.proofs.Common.{◌≡◌, ℕ, zero, suc, ◌<◌, Bool, true, false, List, [], ◌∷◌, ◌++◌, length, length-append, Option, Some, None, is_some, arith, inl, inr, refl, sym, ◌∙◌, ap, subst}
use Rattle.std.specs.Prelude.{IfSome, slice_get, option_and_then}
use Rattle.std.proofs.lemmas.Bool.{cases_lt, cases_eq}
use Rattle.std.proofs.lemmas.Option.{slice_get_past}
use Rattle.cacao_vars.specs.declared.declarations.Var.{Var}
use Rattle.cacao_vars.specs.declared.scoping.Scope.{Scope}
use Rattle.cacao_vars.specs.declared.scoping.Write.{Write}
use Rattle.cacao_vars.specs.Declarations.{declared}
use Rattle.cacao_vars.specs.Scopes.{HasParentsBefore, parent_of, declaration, last_write, written_or_declared, value, ScopesOpen}
use Rattle.cacao_vars.proofs.ScopeLemmas.{home_here, home_outer, home_none}
use Rattle.cacao_vars.proofs.LawLemmas.{value_at}

get_front : {X : Type 0} (xs : List X) (y : X) (k : ℕ) → k < length xs → slice_get (xs ++ y ∷ []) k ≡ slice_get xs k
get_front [] y k lt = absurd (omega arith)
get_front (x ∷ xs) y zero lt = refl
get_front (x ∷ xs) y (suc k) lt = get_front xs y k (omega arith)

get_last : {X : Type 0} (xs : List X) (y : X) → slice_get (xs ++ y ∷ []) (length xs) ≡ Some y
get_last [] y = refl
get_last (x ∷ xs) y = get_last xs y

-- ---- the value of a name, from scope to scope

value_here : (scopes : List Scope) (writes : List Write) (scope : ℕ) (name : List ℕ) → is_some (declaration scopes scope name) ≡ true
    → value scopes writes scope name ≡ written_or_declared (last_write writes scope name) (declaration scopes scope name)
value_here scopes writes scope name e = value_at scopes writes scope scope name (home_here scopes scope name e)

by_home : (scopes : List Scope) (writes : List Write) (name : List ℕ) → Option ℕ → Option (List ℕ)
by_home scopes writes name h = option_and_then (λ (at : ℕ). written_or_declared (last_write writes at name) (declaration scopes at name)) h

value_outer : (scopes : List Scope) (writes : List Write) (scope parent : ℕ) (name : List ℕ) → HasParentsBefore scopes → is_some (declaration scopes scope name) ≡ false
    → parent_of scopes scope ≡ Some parent → parent < scope → value scopes writes scope name ≡ value scopes writes parent name
unfolding by_home
value_outer scopes writes scope parent name before e p lt = ap (by_home scopes writes name) (home_outer scopes scope parent name before e p lt)

value_none : (scopes : List Scope) (writes : List Write) (scope : ℕ) (name : List ℕ) → is_some (declaration scopes scope name) ≡ false
    → parent_of scopes scope ≡ None → value scopes writes scope name ≡ None
unfolding by_home
value_none scopes writes scope name e p = ap (by_home scopes writes name) (home_none scopes scope name e p)

-- ---- one more scope

module _ (scopes : List Scope) (writes : List Write) (new : Scope) (before : HasParentsBefore scopes) (inside : IfSome new.parent (λ p. p < length scopes)) where
  pub after : List Scope
  after = scopes ++ new ∷ []

  same_parent : (k : ℕ) → k < length scopes → parent_of after k ≡ parent_of scopes k
  unfolding after
  same_parent k lt = ap (λ (o : Option Scope). option_and_then (λ (s : Scope). s.parent) o) (get_front scopes new k lt)

  same_declaration : (k : ℕ) (name : List ℕ) → k < length scopes → declaration after k name ≡ declaration scopes k name
  unfolding after
  same_declaration k name lt = ap (λ (o : Option Scope). option_and_then (λ (s : Scope). declared s.vars name) o) (get_front scopes new k lt)

  new_parent : parent_of after (length scopes) ≡ new.parent
  unfolding after
  new_parent = ap (λ (o : Option Scope). option_and_then (λ (s : Scope). s.parent) o) (get_last scopes new)

  new_declaration : (name : List ℕ) → declaration after (length scopes) name ≡ declared new.vars name
  unfolding after
  new_declaration name = ap (λ (o : Option Scope). option_and_then (λ (s : Scope). declared s.vars name) o) (get_last scopes new)

  after_before : HasParentsBefore after
  unfolding after
  after_before k = elim (cases_lt k (length scopes)) [
    | inl lt ↦ subst (λ o. IfSome o (λ p. p < k)) (sym (same_parent k lt)) (before k)
    | inr ge ↦ elim (cases_eq k (length scopes)) [
      | inl here ↦
          let at : parent_of after k ≡ new.parent = ap (parent_of after) here ∙ new_parent in
          subst (λ o. IfSome o (λ p. p < k)) (sym at) (subst (λ n. IfSome new.parent (λ p. p < n)) (sym here) inside)
      | inr ne ↦
          let past : slice_get (scopes ++ new ∷ []) k ≡ None = slice_get_past (scopes ++ new ∷ []) k (omega (arith, ne, length-append scopes (new ∷ []))) in
          subst (λ o. IfSome o (λ p. p < k)) (sym (ap (λ (o : Option Scope). option_and_then (λ (s : Scope). s.parent) o) past)) tt
    ]
  ]

  -- by the scope's own declaration, else by its parent
  stays_at : (k : ℕ) (name : List ℕ) → k < length scopes → ((p : ℕ) → p < k → value after writes p name ≡ value scopes writes p name)
      → (b : Bool) (o : Option ℕ) → is_some (declaration scopes k name) ≡ b → parent_of scopes k ≡ o → IfSome o (λ p. p < k)
      → value after writes k name ≡ value scopes writes k name
  stays_at k name lt earlier true o e p less =
      let here : is_some (declaration after k name) ≡ true = ap is_some (same_declaration k name lt) ∙ e in
      value_here after writes k name here ∙ ap (written_or_declared (last_write writes k name)) (same_declaration k name lt) ∙ sym (value_here scopes writes k name e)
  stays_at k name lt earlier false None e p less =
      let here : is_some (declaration after k name) ≡ false = ap is_some (same_declaration k name lt) ∙ e in
      value_none after writes k name here (same_parent k lt ∙ p) ∙ sym (value_none scopes writes k name e p)
  stays_at k name lt earlier false (Some parent) e p less =
      let here : is_some (declaration after k name) ≡ false = ap is_some (same_declaration k name lt) ∙ e in
      value_outer after writes k parent name after_before here (same_parent k lt ∙ p) less ∙ earlier parent less ∙ sym (value_outer scopes writes k parent name before e p less)

  stays_below : (n k : ℕ) (name : List ℕ) → k < n → k < length scopes → value after writes k name ≡ value scopes writes k name
  stays_below zero k name lt within = absurd (omega arith)
  stays_below (suc n) k name lt within =
      stays_at k name within (λ p less. stays_below n p name (omega arith) (omega arith)) (is_some (declaration scopes k name)) (parent_of scopes k) refl refl (before k)

  pub stays : (k : ℕ) (name : List ℕ) → k < length scopes → value after writes k name ≡ value scopes writes k name
  stays k name lt = stays_below (suc k) k name (omega arith) lt

  pub own : (name : List ℕ) (var : Var) → last_write writes (length scopes) name ≡ None → declared new.vars name ≡ Some var → value after writes (length scopes) name ≡ var.worth
  own name var unwritten is =
      let at : declaration after (length scopes) name ≡ Some var = new_declaration name ∙ is in
      value_here after writes (length scopes) name (ap is_some at)
      ∙ (λ i. written_or_declared (unwritten i) (at i))

  around_at : (name : List ℕ) → declared new.vars name ≡ None → (o : Option ℕ) → new.parent ≡ o → IfSome o (λ p. p < length scopes)
      → value after writes (length scopes) name ≡ option_and_then (λ (p : ℕ). value scopes writes p name) o
  around_at name none None is less =
      value_none after writes (length scopes) name (ap is_some (new_declaration name ∙ none)) (new_parent ∙ is)
  around_at name none (Some p) is less =
      value_outer after writes (length scopes) p name after_before (ap is_some (new_declaration name ∙ none)) (new_parent ∙ is) less ∙ stays p name less

  pub around : (name : List ℕ) → declared new.vars name ≡ None → value after writes (length scopes) name ≡ option_and_then (λ (p : ℕ). value scopes writes p name) new.parent
  around name none = around_at name none new.parent refl inside

pub scopes_open : ScopesOpen
unfolding after
scopes_open scopes writes parent vars before inside =
    let new : Scope = record { parent = parent; vars = vars } in
    record {
      others = λ scope name lt. stays scopes writes new before inside scope name lt;
      own = λ name var unwritten is. own scopes writes new before inside name var unwritten is;
      around = λ name none. around scopes writes new before inside name none;
    }
