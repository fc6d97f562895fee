-- The scopes around a scope are earlier, so the walk along the parents ends.
use Rattle.std.proofs.Common.{◌≡◌, ℕ, zero, suc, ◌<◌, Bool, true, false, List, [], ◌∷◌, Option, Some, None, is_some, arith, refl, ap}
use Rattle.std.specs.Prelude.{IfSome, find}
use Rattle.std.specs.Option.{option_map_or}
use Rattle.cacao_vars.specs.declared.scoping.Scope.{Scope}
use Rattle.cacao_vars.specs.Scopes.{HasParentsBefore, parent_of, nearest, declaration, home}

outer-enough : (n m : ℕ) (scopes : List Scope) (outer : Option ℕ) (scope : ℕ) → IfSome outer (λ p. p < scope)
    → ((p : ℕ) → p < scope → nearest n scopes p ≡ nearest m scopes p)
    → option_map_or (nearest n scopes) outer [] ≡ option_map_or (nearest m scopes) outer []
outer-enough n m scopes None scope before same = refl
outer-enough n m scopes (Some p) scope before same = same p before

-- more steps than a scope's number change nothing
nearest-enough : (n m : ℕ) (scopes : List Scope) (scope : ℕ) → HasParentsBefore scopes → scope < n → scope < m → nearest n scopes scope ≡ nearest m scopes scope
nearest-enough zero m scopes scope before a b = absurd (omega arith)
nearest-enough (suc n) zero scopes scope before a b = absurd (omega arith)
nearest-enough (suc n) (suc m) scopes scope before a b =
    ap (λ rest. scope ∷ rest) (outer-enough n m scopes (parent_of scopes scope) scope (before scope) (λ p h. nearest-enough n m scopes p before (omega arith) (omega arith)))

-- a scope that declares the name is its home
pub home_here : (scopes : List Scope) (scope : ℕ) (name : List ℕ) → is_some (declaration scopes scope name) ≡ true → home scopes scope name ≡ Some scope
home_here scopes scope name e = rw e refl

-- another scope has the home that the scope around it has
pub home_outer : (scopes : List Scope) (scope parent : ℕ) (name : List ℕ) → HasParentsBefore scopes → is_some (declaration scopes scope name) ≡ false
    → parent_of scopes scope ≡ Some parent → parent < scope → home scopes scope name ≡ home scopes parent name
home_outer scopes scope parent name before e p h =
    let test : ℕ → Bool = λ s. is_some (declaration scopes s name) in
    rw e (rw p (ap (find test) (nearest-enough scope (suc parent) scopes parent before h (omega arith))))

pub home_none : (scopes : List Scope) (scope : ℕ) (name : List ℕ) → is_some (declaration scopes scope name) ≡ false
    → parent_of scopes scope ≡ None → home scopes scope name ≡ None
home_none scopes scope name e p = rw e (rw p refl)
