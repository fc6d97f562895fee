-- Promise: Conditions as lists of their parts.
use Rattle.std.specs.Prelude.{◌≡◌, ◌≢◌, ℕ, List, [], ◌∷◌}
use Rattle.std.specs.List.{flat_map, list_all, list_any}
use Rattle.cacao_cond.specs.declared.trees.Constant.{Constant}
use Rattle.cacao_cond.specs.Trees.{ConstantTree, AnyTree, AllTree, PrimeTree}
use Rattle.cacao_cond.specs.Trees.ConstantTree.{last_constant, more_constants}
use Rattle.cacao_cond.specs.Trees.AnyTree.{last_part, or_else}
use Rattle.cacao_cond.specs.Trees.AllTree.{last_prime, and_also}
use Rattle.cacao_cond.specs.Worths.{Worth}
use Rattle.cacao_cond.specs.Truth.{equals, holds_by, holds_all, holds_prime, is_among}
use Rattle.cacao_cond.specs.Names.{named, named_all, named_prime}

-- the parts of a condition, of which one has to hold
abbrev pub parts_of : AnyTree → List AllTree
parts_of (last_part part) = part ∷ []
parts_of (or_else part rest) = part ∷ parts_of rest

-- the parts of one of these, which all have to hold
abbrev pub primes_of : AllTree → List PrimeTree
primes_of (last_prime prime) = prime ∷ []
primes_of (and_also prime rest) = prime ∷ primes_of rest

-- the constants behind `IN`
abbrev pub constants_in : ConstantTree → List Constant
constants_in (last_constant constant) = constant ∷ []
constants_in (more_constants constant rest) = constant ∷ constants_in rest

-- each value is one list of one item or more, and each such list is one value
pub record AreLists {T X : Type 0} (items : T → List X) : Type 0 where
  pub some : (value : T) → items value ≢ []
  pub made : (item : X) (others : List X) → (value : T) × (items value ≡ item ∷ others)
  pub one : (value other : T) → items value ≡ items other → value ≡ other

-- what a condition says, by its lists
pub record SaysByParts : Type 0 where
  pub any : (cond : AnyTree) (worth : List ℕ → Worth)
      → holds_by cond worth ≡ list_any (λ part. holds_all part worth) (parts_of cond)
  pub all : (part : AllTree) (worth : List ℕ → Worth)
      → holds_all part worth ≡ list_all (λ prime. holds_prime prime worth) (primes_of part)
  pub among : (constants : ConstantTree) (value : Worth)
      → is_among value constants ≡ list_any (equals value) (constants_in constants)
  pub names : (cond : AnyTree) → named cond ≡ flat_map named_all (parts_of cond)
  pub part_names : (part : AllTree) → named_all part ≡ flat_map named_prime (primes_of part)
