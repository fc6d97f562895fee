-- Promise: Scopes, what was written in them, and the value of a name.
use Rattle.std.specs.Prelude.{◌≡◌, ℕ, zero, suc, ◌<◌, ◌==◌, ◌&&◌, IsTrue, List, [], ◌∷◌, ◌++◌, reverse, length, find, Option, Some, None, is_some, IfSome, IsSomeAnd, slice_get, option_and_then}
use Rattle.std.specs.Option.{option_map_or}
use Rattle.std.specs.Str.{bytes_eq}
use Rattle.cacao_vars.specs.declared.declarations.Var.{Var}
use Rattle.cacao_vars.specs.declared.scoping.Scope.{Scope}
use Rattle.cacao_vars.specs.declared.scoping.Write.{Write}
use Rattle.cacao_vars.specs.Declarations.{declared}

-- scopes, numbered from 0, and all that was written, the first write first
pub record Contents : Type 0 where
  pub scopes : List Scope
  pub writes : List Write

abbrev pub parent_of : List Scope → ℕ → Option ℕ
parent_of scopes scope = option_and_then (λ s. s.parent) (slice_get scopes scope)

-- each scope is opened later than the one around it
abbrev pub HasParentsBefore : List Scope → Type 0
HasParentsBefore scopes = (scope : ℕ) → IfSome (parent_of scopes scope) (λ parent. parent < scope)

-- a scope and those around it, the nearest first, as far as n of them
abbrev pub nearest : ℕ → List Scope → ℕ → List ℕ
nearest zero scopes scope = []
nearest (suc n) scopes scope = scope ∷ option_map_or (nearest n scopes) (parent_of scopes scope) []

-- all of them: those around a scope are earlier
abbrev pub along : List Scope → ℕ → List ℕ
along scopes scope = nearest (suc scope) scopes scope

-- what a scope itself declares of a name
abbrev pub declaration : List Scope → ℕ → List ℕ → Option Var
declaration scopes scope name = option_and_then (λ s. declared s.vars name) (slice_get scopes scope)

-- the home of a name: the first scope that declares it, from the given one along the parents
abbrev pub home : List Scope → ℕ → List ℕ → Option ℕ
home scopes scope name = find (λ s. is_some (declaration scopes s name)) (along scopes scope)

-- the declaration of a name in its home
abbrev pub home_declaration : List Scope → ℕ → List ℕ → Option Var
home_declaration scopes scope name = option_and_then (λ h. declaration scopes h name) (home scopes scope name)

-- the last write to a name in a scope
abbrev pub last_write : List Write → ℕ → List ℕ → Option Write
last_write writes scope name = find (λ write. (write.scope == scope) && bytes_eq write.name name) (reverse writes)

-- the text of the last write, else the declared value, else unset
abbrev pub written_or_declared : Option Write → Option Var → Option (List ℕ)
written_or_declared (Some write) var = Some write.worth
written_or_declared None var = option_and_then (λ v. v.worth) var

-- the value of a name in a scope: that in its home, and unset without a home
abbrev pub value : List Scope → List Write → ℕ → List ℕ → Option (List ℕ)
value scopes writes scope name =
    option_and_then (λ h. written_or_declared (last_write writes h name) (declaration scopes h name)) (home scopes scope name)

-- the scope itself declares the name, as constant
abbrev pub IsConstant : List Scope → ℕ → List ℕ → Type 0
IsConstant scopes scope name = IsSomeAnd (declaration scopes scope name) (λ var. IsTrue var.constant)

-- nothing but one more write at the end
abbrev pub with_write : Contents → ℕ → List ℕ → List ℕ → Contents
with_write old scope name worth =
    record { scopes = old.scopes; writes = old.writes ++ (record { scope = scope; name = name; worth = worth }) ∷ [] }

-- nothing but one more scope, with the next number
abbrev pub with_scope : Contents → Option ℕ → List Var → Contents
with_scope old parent vars =
    record { scopes = old.scopes ++ (record { parent = parent; vars = vars }) ∷ []; writes = old.writes }

-- a write sets the value of its name wherever that has the same home, and no other value
abbrev pub WritesOneValue : Type 0
WritesOneValue = (scopes : List Scope) (writes : List Write) (at : ℕ) (name worth : List ℕ) (scope : ℕ) (other : List ℕ)
    → let after : List Write = writes ++ (record { scope = at; name = name; worth = worth }) ∷ [] in
    (home scopes scope other ≡ Some at → other ≡ name → value scopes after scope other ≡ Some worth)
    × ((home scopes scope other ≡ Some at → other ≡ name → ⊥) → value scopes after scope other ≡ value scopes writes scope other)

-- A scope that is opened leaves what each name has in the others. A name has in it what the scope declares of it, else what it has in the scope
-- around it; nothing was written to it before.
pub record OpensOneScope (scopes : List Scope) (writes : List Write) (parent : Option ℕ) (vars : List Var) : Type 0 where
  pub others : (scope : ℕ) (name : List ℕ) → scope < length scopes
      → value (scopes ++ (record { parent = parent; vars = vars }) ∷ []) writes scope name ≡ value scopes writes scope name
  pub own : (name : List ℕ) (var : Var) → last_write writes (length scopes) name ≡ None → declared vars name ≡ Some var
      → value (scopes ++ (record { parent = parent; vars = vars }) ∷ []) writes (length scopes) name ≡ var.worth
  pub around : (name : List ℕ) → declared vars name ≡ None
      → value (scopes ++ (record { parent = parent; vars = vars }) ∷ []) writes (length scopes) name
      ≡ option_and_then (λ p. value scopes writes p name) parent

abbrev pub ScopesOpen : Type 0
ScopesOpen = (scopes : List Scope) (writes : List Write) (parent : Option ℕ) (vars : List Var) → HasParentsBefore scopes
    → IfSome parent (λ p. p < length scopes)
    → OpensOneScope scopes writes parent vars
