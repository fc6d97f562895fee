-- What a name is declared as, from scope to scope.
use Rattle.std.proofs.Common.{◌≡◌, ℕ, zero, suc, ◌<◌, Bool, true, false, List, [], ◌∷◌, ◌++◌, length, Option, Some, None, is_some, arith, refl, ap, sym, ◌∙◌}
use Rattle.std.specs.Prelude.{IfSome, option_and_then, slice_get}
use Rattle.cacao_vars.specs.declared.declarations.Var.{Var}
use Rattle.cacao_vars.specs.declared.scoping.Scope.{Scope}
use Rattle.cacao_vars.specs.Declarations.{declared}
use Rattle.cacao_vars.specs.Scopes.{HasParentsBefore, parent_of, along, home, declaration, home_declaration}
use Rattle.cacao_vars.proofs.ScopeLemmas.{home_here, home_outer, home_none}
use Rattle.cacao_check_regions.specs.Regions.{nearer}
use Rattle.flow_core_rules.proofs.ShownLemmas.{find-passes}
use Rattle.flow_core_rules.proofs.TaskLemmas.{get_within}
use Rattle.flow_core_laws.proofs.Somes.{clash}

abbrev in_home : List Scope → List ℕ → Option ℕ → Option Var
in_home scopes name h = option_and_then (λ (at : ℕ). declaration scopes at name) h

declared_here : (scopes : List Scope) (scope : ℕ) (name : List ℕ) → is_some (declaration scopes scope name) ≡ true → home_declaration scopes scope name ≡ declaration scopes scope name
declared_here scopes scope name e = ap (in_home scopes name) (home_here scopes scope name e)

declared_outer : (scopes : List Scope) (scope parent : ℕ) (name : List ℕ) → HasParentsBefore scopes → is_some (declaration scopes scope name) ≡ false
    → parent_of scopes scope ≡ Some parent → parent < scope → home_declaration scopes scope name ≡ home_declaration scopes parent name
declared_outer scopes scope parent name before e p less = ap (in_home scopes name) (home_outer scopes scope parent name before e p less)

declared_none : (scopes : List Scope) (scope : ℕ) (name : List ℕ) → is_some (declaration scopes scope name) ≡ false → parent_of scopes scope ≡ None → home_declaration scopes scope name ≡ None
declared_none scopes scope name e p = ap (in_home scopes name) (home_none scopes scope name e p)

declaration_is : (scopes : List Scope) (n : ℕ) (scope : Scope) (name : List ℕ) → slice_get scopes n ≡ Some scope → declaration scopes n name ≡ declared scope.vars name
declaration_is scopes n scope name e = ap (λ (o : Option Scope). option_and_then (λ (s : Scope). declared s.vars name) o) e

parent_is : (scopes : List Scope) (n : ℕ) (scope : Scope) → slice_get scopes n ≡ Some scope → parent_of scopes n ≡ scope.parent
parent_is scopes n scope e = ap (λ (o : Option Scope). option_and_then (λ (s : Scope). s.parent) o) e

-- a scope inside another one has its own declarations, and else those of the other
pub declared_inside : (scopes : List Scope) (n around : ℕ) (vars : List Var) (name : List ℕ) → HasParentsBefore scopes → slice_get scopes n ≡ Some (record { parent = Some around; vars = vars }) → around < n
    → home_declaration scopes n name ≡ nearer (declared vars name) (home_declaration scopes around name)
declared_inside scopes n around vars name before e less = by (declared vars name) refl
  where
    scope : Scope
    scope = record { parent = Some around; vars = vars }

    own : declaration scopes n name ≡ declared vars name
    own = declaration_is scopes n scope name e

    by : (o : Option Var) → declared vars name ≡ o → home_declaration scopes n name ≡ nearer o (home_declaration scopes around name)
    by (Some var) d = declared_here scopes n name (ap is_some (own ∙ d)) ∙ own ∙ d
    by None d = declared_outer scopes n around name before (ap is_some (own ∙ d)) (parent_is scopes n scope e) less

-- one with none around it has its own alone
pub declared_alone : (scopes : List Scope) (n : ℕ) (vars : List Var) (name : List ℕ) → slice_get scopes n ≡ Some (record { parent = None; vars = vars }) → home_declaration scopes n name ≡ declared vars name
declared_alone scopes n vars name e = by (declared vars name) refl
  where
    scope : Scope
    scope = record { parent = None; vars = vars }

    own : declaration scopes n name ≡ declared vars name
    own = declaration_is scopes n scope name e

    by : (o : Option Var) → declared vars name ≡ o → home_declaration scopes n name ≡ o
    by (Some var) d = declared_here scopes n name (ap is_some (own ∙ d)) ∙ own ∙ d
    by None d = declared_none scopes n name (ap is_some (own ∙ d)) (parent_is scopes n scope e)

-- ---- further scopes

pub get_front : {A : Type 0} (xs ys : List A) (k : ℕ) → k < length xs → slice_get (xs ++ ys) k ≡ slice_get xs k
get_front [] ys k less = absurd (omega arith)
get_front (x ∷ xs) ys zero less = refl
get_front (x ∷ xs) ys (suc k) less = get_front xs ys k (omega arith)

module _ (scopes more : List Scope) (before : HasParentsBefore scopes) (after : HasParentsBefore (scopes ++ more)) (name : List ℕ) where
  same_declaration : (k : ℕ) → k < length scopes → declaration (scopes ++ more) k name ≡ declaration scopes k name
  same_declaration k less = ap (λ (o : Option Scope). option_and_then (λ (s : Scope). declared s.vars name) o) (get_front scopes more k less)

  same_parent : (k : ℕ) → k < length scopes → parent_of (scopes ++ more) k ≡ parent_of scopes k
  same_parent k less = ap (λ (o : Option Scope). option_and_then (λ (s : Scope). s.parent) o) (get_front scopes more k less)

  stays_at : (k : ℕ) → k < length scopes → ((p : ℕ) → p < k → home (scopes ++ more) p name ≡ home scopes p name)
      → (b : Bool) (o : Option ℕ) → is_some (declaration scopes k name) ≡ b → parent_of scopes k ≡ o → IfSome o (λ p. p < k) → home (scopes ++ more) k name ≡ home scopes k name
  stays_at k less earlier true o e p inner = home_here (scopes ++ more) k name (ap is_some (same_declaration k less) ∙ e) ∙ sym (home_here scopes k name e)
  stays_at k less earlier false None e p inner =
      home_none (scopes ++ more) k name (ap is_some (same_declaration k less) ∙ e) (same_parent k less ∙ p) ∙ sym (home_none scopes k name e p)
  stays_at k less earlier false (Some parent) e p inner =
      home_outer (scopes ++ more) k parent name after (ap is_some (same_declaration k less) ∙ e) (same_parent k less ∙ p) inner ∙ earlier parent inner
      ∙ sym (home_outer scopes k parent name before e p inner)

  stays_below : (n k : ℕ) → k < n → k < length scopes → home (scopes ++ more) k name ≡ home scopes k name
  stays_below zero k less within = absurd (omega arith)
  stays_below (suc n) k less within =
      stays_at k within (λ p inner. stays_below n p (omega arith) (omega arith)) (is_some (declaration scopes k name)) (parent_of scopes k) refl refl (before k)

  -- a name has the home that it had, seen from a scope that was there
  pub home_still : (k : ℕ) → k < length scopes → home (scopes ++ more) k name ≡ home scopes k name
  home_still k less = stays_below (suc k) k (omega arith) less

  there : (k : ℕ) (o : Option Scope) → slice_get scopes k ≡ o → is_some (option_and_then (λ (s : Scope). declared s.vars name) o) ≡ true → k < length scopes
  there k None e h = absurd (clash false h refl)
  there k (Some scope) e h = get_within scopes k scope e

  -- and a scope that was there declares what it declared
  pub declared_still : (k : ℕ) → k < length scopes → home_declaration (scopes ++ more) k name ≡ home_declaration scopes k name
  declared_still k less =
      ap (in_home (scopes ++ more) name) (home_still k less)
      ∙ by (home scopes k name) (λ at e. find-passes (λ n. is_some (declaration scopes n name)) (along scopes k) at e)
    where
      by : (o : Option ℕ) → ((at : ℕ) → o ≡ Some at → is_some (declaration scopes at name) ≡ true) → in_home (scopes ++ more) name o ≡ in_home scopes name o
      by None h = refl
      by (Some at) h = same_declaration at (there at (slice_get scopes at) refl (h at refl))
