-- Promise: The one text that a condition is printed as.
use Rattle.std.specs.Prelude.{ℕ, true, false, List, [], ◌∷◌, ◌++◌, codes, FitsSigned}
use Rattle.std.specs.Fmt.{signed_decimal}
use Rattle.std.specs.Int.{w64}
use Rattle.std.specs.Str.{IsUtf8}
use Rattle.cacao_vars.specs.Names.{IsName}
use Rattle.cacao_cond.specs.declared.trees.Op.{Op}
use Rattle.cacao_cond.specs.declared.trees.Op.TheVariants.{Equal, Unequal, Less, AtMost, More, AtLeast}
use Rattle.cacao_cond.specs.declared.trees.Constant.{Constant}
use Rattle.cacao_cond.specs.declared.trees.Constant.TheVariants.{Whole, Flag, Text}
use Rattle.cacao_cond.specs.Trees.{ConstantTree, AnyTree, AllTree, PrimeTree}
use Rattle.cacao_cond.specs.Trees.ConstantTree.{last_constant, more_constants}
use Rattle.cacao_cond.specs.Trees.AnyTree.{last_part, or_else}
use Rattle.cacao_cond.specs.Trees.AllTree.{last_prime, and_also}
use Rattle.cacao_cond.specs.Trees.PrimeTree.{group, compared, among}
use Rattle.cacao_cond.specs.Grammar.{escaped}

abbrev pub printed_op : Op → List ℕ
printed_op Equal = codes "="
printed_op Unequal = codes "!="
printed_op Less = codes "<"
printed_op AtMost = codes "<="
printed_op More = codes ">"
printed_op AtLeast = codes ">="

abbrev pub printed_constant : Constant → List ℕ
printed_constant (Whole z) = signed_decimal z
printed_constant (Flag true) = codes "true"
printed_constant (Flag false) = codes "false"
printed_constant (Text word) = 39 ∷ escaped word ++ 39 ∷ []

-- a comma and a space between constants
abbrev pub printed_constants : ConstantTree → List ℕ
printed_constants (last_constant constant) = printed_constant constant
printed_constants (more_constants constant rest) = printed_constant constant ++ (codes ", " ++ printed_constants rest)

abbrev pub printed_compared : List ℕ → Op → Constant → List ℕ
printed_compared name op constant = name ++ (codes ":value " ++ (printed_op op ++ (codes " " ++ printed_constant constant)))

abbrev pub printed_among : List ℕ → ConstantTree → List ℕ
printed_among name constants = name ++ codes ":value IN (" ++ printed_constants constants ++ codes ")"

abbrev mutual
  -- one space on each side of a connective and of an operator, and no other
  pub printed : AnyTree → List ℕ
  printed (last_part part) = printed_all part
  printed (or_else part rest) = printed_all part ++ (codes " OR " ++ printed rest)

  pub printed_all : AllTree → List ℕ
  printed_all (last_prime prime) = printed_prime prime
  printed_all (and_also prime rest) = printed_prime prime ++ (codes " AND " ++ printed_all rest)

  pub printed_prime : PrimeTree → List ℕ
  printed_prime (group any) = codes "(" ++ (printed any ++ codes ")")
  printed_prime (compared name op constant) = printed_compared name op constant
  printed_prime (among name constants) = printed_among name constants

-- what a program's condition keeps: names are names, numbers have 64 bits, and texts are UTF-8
abbrev pub IsFitConstant : Constant → Type 0
IsFitConstant (Whole z) = FitsSigned w64 z
IsFitConstant (Flag b) = Unit {0}
IsFitConstant (Text word) = IsUtf8 word

abbrev pub AreFit : ConstantTree → Type 0
AreFit (last_constant constant) = IsFitConstant constant
AreFit (more_constants constant rest) = IsFitConstant constant × AreFit rest

abbrev mutual
  pub IsFit : AnyTree → Type 0
  IsFit (last_part part) = IsFitAll part
  IsFit (or_else part rest) = IsFitAll part × IsFit rest

  pub IsFitAll : AllTree → Type 0
  IsFitAll (last_prime prime) = IsFitPrime prime
  IsFitAll (and_also prime rest) = IsFitPrime prime × IsFitAll rest

  pub IsFitPrime : PrimeTree → Type 0
  IsFitPrime (group any) = IsFit any
  IsFitPrime (compared name op constant) = IsName name × IsFitConstant constant
  IsFitPrime (among name constants) = IsName name × AreFit constants
