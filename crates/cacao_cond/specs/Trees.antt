-- Promise: Conditions as plain trees: what a program's condition says, without where it lies in memory.
use Rattle.std.specs.Prelude.{ℕ, List}
use Rattle.cacao_cond.specs.declared.trees.Op.{Op}
use Rattle.cacao_cond.specs.declared.trees.Constant.{Constant}
use Rattle.cacao_cond.specs.declared.trees.Constants as constants
use Rattle.cacao_cond.specs.declared.trees.Cond as cond
use Rattle.cacao_cond.specs.declared.trees.AllOf as all_of
use Rattle.cacao_cond.specs.declared.trees.Prime as prime

-- one or more constants
pub data ConstantTree : Type 0 where
  last_constant : Constant → ConstantTree
  more_constants : Constant → ConstantTree → ConstantTree

mutual
  -- one or more parts, of which one has to hold
  pub data AnyTree : Type 0 where
    last_part : AllTree → AnyTree
    or_else : AllTree → AnyTree → AnyTree

  -- one or more parts, which all have to hold
  pub data AllTree : Type 0 where
    last_prime : PrimeTree → AllTree
    and_also : PrimeTree → AllTree → AllTree

  -- a condition in parentheses, or a comparison with one constant or with several
  pub data PrimeTree : Type 0 where
    group : AnyTree → PrimeTree
    compared : List ℕ → Op → Constant → PrimeTree
    among : List ℕ → ConstantTree → PrimeTree

-- the tree of a program's value
abbrev pub constants_of : constants.Constants → ConstantTree
constants_of (constants.Last constant) = last_constant constant
constants_of (constants.More' constant p rest) = more_constants constant (constants_of rest)

abbrev mutual
  pub tree_of : cond.Cond → AnyTree
  tree_of (cond.Last all) = last_part (all_of_tree all)
  tree_of (cond.Or' all p rest) = or_else (all_of_tree all) (tree_of rest)

  pub all_of_tree : all_of.AllOf → AllTree
  all_of_tree (all_of.Last prime) = last_prime (prime_tree prime)
  all_of_tree (all_of.And' prime p rest) = and_also (prime_tree prime) (all_of_tree rest)

  pub prime_tree : prime.Prime → PrimeTree
  prime_tree (prime.Group' p cond) = group (tree_of cond)
  prime_tree (prime.Compare name op constant) = compared name op constant
  prime_tree (prime.Among name constants) = among name (constants_of constants)
