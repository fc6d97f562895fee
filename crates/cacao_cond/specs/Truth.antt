-- Promise: The truth of a condition where its variables have values.
use Rattle.std.specs.Prelude.{ℕ, ◌&&◌, ◌||◌, Bool, true, false, not, List, codes, find, unwrap_or, option_map, Option, Some, None}
use Rattle.std.specs.Bool.{beq}
use Rattle.std.specs.Fmt.{signed_decimal}
use Rattle.std.specs.Option.{option_map_or}
use Rattle.std.specs.Str.{bytes_eq}
use Rattle.std.specs.Cmp.Lexicographic.{slice_cmp}
use Rattle.std.specs.Ordering.{nat_cmp, int_cmp, int_eq, bool_cmp, is_lt, is_le, is_gt, is_ge}
use Rattle.std.specs.declared.cmp.Ordering.{Ordering}
use Rattle.cacao_cond.specs.declared.trees.Op.{Op}
use Rattle.cacao_cond.specs.declared.trees.Op.TheVariants.{Equal, Unequal, Less, AtMost, More, AtLeast}
use Rattle.cacao_cond.specs.declared.trees.Constant.{Constant}
use Rattle.cacao_cond.specs.declared.trees.Constant.TheVariants as constant
use Rattle.cacao_cond.specs.Worths.{Worth, unset, whole, flag, text}
use Rattle.cacao_cond.specs.Trees.{ConstantTree, AnyTree, AllTree, PrimeTree}
use Rattle.cacao_cond.specs.Trees.ConstantTree.{last_constant, more_constants}
use Rattle.cacao_cond.specs.Trees.AnyTree.{last_part, or_else}
use Rattle.cacao_cond.specs.Trees.AllTree.{last_prime, and_also}
use Rattle.cacao_cond.specs.Trees.PrimeTree.{group, compared, among}

-- the value that is listed of a name, the first where there are several
abbrev pub worth_at : List (List ℕ × Worth) → List ℕ → Option Worth
worth_at values name = option_map (λ p. p.1) (find (λ p. bytes_eq p.0 name) values)

-- the value of a name: unset where it is not listed
abbrev pub worth_in : List (List ℕ × Worth) → List ℕ → Worth
worth_in values name = unwrap_or (worth_at values name) unset

abbrev pub flag_text : Bool → List ℕ
flag_text true = codes "true"
flag_text false = codes "false"

-- `=`: an unset value equals nothing, and those of different sorts are equal where their texts are
abbrev pub equals : Worth → Constant → Bool
equals unset c = false
equals (whole a) (constant.Whole b) = int_eq a b
equals (whole a) (constant.Flag b) = bytes_eq (signed_decimal a) (flag_text b)
equals (whole a) (constant.Text b) = bytes_eq (signed_decimal a) b
equals (flag a) (constant.Whole b) = bytes_eq (signed_decimal b) (flag_text a)
equals (flag a) (constant.Flag b) = beq a b
equals (flag a) (constant.Text b) = bytes_eq (flag_text a) b
equals (text a) (constant.Whole b) = bytes_eq (signed_decimal b) a
equals (text a) (constant.Flag b) = bytes_eq (flag_text b) a
equals (text a) (constant.Text b) = bytes_eq a b

-- the order of two values of one sort: numbers as numbers, false before true, texts by their bytes
abbrev pub order_of : Worth → Constant → Option Ordering
order_of (whole a) (constant.Whole b) = Some (int_cmp a b)
order_of (flag a) (constant.Flag b) = Some (bool_cmp a b)
order_of (text a) (constant.Text b) = Some (slice_cmp nat_cmp a b)
order_of a b = None

abbrev pub is_set : Worth → Bool
is_set unset = false
is_set (whole a) = true
is_set (flag a) = true
is_set (text a) = true

-- a comparison; with an unset value it is false, and so is an order of different sorts
abbrev pub compares : Worth → Op → Constant → Bool
compares a Equal b = equals a b
compares a Unequal b = is_set a && not (equals a b)
compares a Less b = option_map_or is_lt (order_of a b) false
compares a AtMost b = option_map_or is_le (order_of a b) false
compares a More b = option_map_or is_gt (order_of a b) false
compares a AtLeast b = option_map_or is_ge (order_of a b) false

-- `IN`: the value equals one of the constants
abbrev pub is_among : Worth → ConstantTree → Bool
is_among a (last_constant b) = equals a b
is_among a (more_constants b rest) = equals a b || is_among a rest

-- whether a condition holds where each name has this value
abbrev mutual
  -- one of the parts holds
  pub holds_by : AnyTree → (List ℕ → Worth) → Bool
  holds_by (last_part part) worth = holds_all part worth
  holds_by (or_else part rest) worth = holds_all part worth || holds_by rest worth

  -- each of the parts holds
  pub holds_all : AllTree → (List ℕ → Worth) → Bool
  holds_all (last_prime prime) worth = holds_prime prime worth
  holds_all (and_also prime rest) worth = holds_prime prime worth && holds_all rest worth

  pub holds_prime : PrimeTree → (List ℕ → Worth) → Bool
  holds_prime (group any) worth = holds_by any worth
  holds_prime (compared name op constant) worth = compares (worth name) op constant
  holds_prime (among name constants) worth = is_among (worth name) constants

-- whether it holds where these values are listed
abbrev pub holds : AnyTree → List (List ℕ × Worth) → Bool
holds any values = holds_by any (worth_in values)
