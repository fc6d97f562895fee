-- Promise: The names of a condition.
use Rattle.std.specs.Prelude.{◌≢◌, ◌↔◌, ℕ, List, [], ◌∷◌, ◌++◌, Contains, if◌then◌else◌}
use Rattle.std.specs.List.{AllPairs, list_any}
use Rattle.std.specs.Str.{bytes_eq}
use Rattle.cacao_cond.specs.Trees.{AnyTree, AllTree, PrimeTree}
use Rattle.cacao_cond.specs.Trees.AnyTree.{last_part, or_else}
use Rattle.cacao_cond.specs.Trees.AllTree.{last_prime, and_also}
use Rattle.cacao_cond.specs.Trees.PrimeTree.{group, compared, among}

abbrev mutual
  -- the names as they stand from left to right, each as often as it stands
  pub named : AnyTree → List (List ℕ)
  named (last_part part) = named_all part
  named (or_else part rest) = named_all part ++ named rest

  pub named_all : AllTree → List (List ℕ)
  named_all (last_prime prime) = named_prime prime
  named_all (and_also prime rest) = named_prime prime ++ named_all rest

  pub named_prime : PrimeTree → List (List ℕ)
  named_prime (group any) = named any
  named_prime (compared name op constant) = name ∷ []
  named_prime (among name constants) = name ∷ []

-- no name stands in the list twice
abbrev pub HasNoTwin : List (List ℕ) → Type 0
HasNoTwin names = AllPairs (λ name later. name ≢ later) names

-- the list has exactly the names of the condition
abbrev pub HasNamesOf : AnyTree → List (List ℕ) → Type 0
HasNamesOf tree names = (name : List ℕ) → Contains names name ↔ Contains (named tree) name

-- a list with one more name, unless it is there
abbrev pub with_name : List (List ℕ) → List ℕ → List (List ℕ)
with_name names name = if list_any (λ n. bytes_eq n name) names then names else names ++ name ∷ []

-- a list with more names
abbrev pub with_names : List (List ℕ) → List (List ℕ) → List (List ℕ)
with_names names [] = names
with_names names (more ∷ others) = with_names (with_name names more) others
