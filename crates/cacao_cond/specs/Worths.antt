-- Promise: The values of variables.
use Rattle.std.specs.Prelude.{ℕ, ℤ, Bool, true, false, List, codes, Option, Some, None, if◌then◌else◌}
use Rattle.std.specs.Str.{bytes_eq}
use Rattle.base_decimals.specs.Numbers.{integer}
use Rattle.cacao_vars.specs.declared.kinds.Kind.{Kind}
use Rattle.cacao_vars.specs.declared.kinds.Kind.TheVariants as kind
use Rattle.cacao_cond.specs.declared.deciding.Atom.{Atom}
use Rattle.cacao_cond.specs.declared.deciding.Atom.TheVariants as atom

-- unset, a whole number, a flag, or a text
pub data Worth : Type 0 where
  unset : Worth
  whole : ℤ → Worth
  flag : Bool → Worth
  text : List ℕ → Worth

-- what the program's value is
abbrev pub worth_of : Atom → Worth
worth_of atom.Unset = unset
worth_of (atom.Whole z) = whole z
worth_of (atom.Flag b) = flag b
worth_of (atom.Text t) = text t.now

abbrev pub whole_worth : Option ℤ → Worth
whole_worth None = unset
whole_worth (Some z) = whole z

abbrev pub flag_worth : List ℕ → Worth
flag_worth t = if bytes_eq t (codes "true") then flag true else if bytes_eq t (codes "false") then flag false else unset

-- The value of a text by the kind of its variable: a whole number, a flag, or the text itself. A text that does not fit a kind of numbers or
-- flags has none.
abbrev pub worth_by : Kind → List ℕ → Worth
worth_by kind.Integer t = whole_worth (integer 9_007_199_254_740_991 9_007_199_254_740_991 t)
worth_by kind.Long t = whole_worth (integer 9_223_372_036_854_775_808 9_223_372_036_854_775_807 t)
worth_by kind.Bool t = flag_worth t
worth_by k t = text t

-- the value of a variable, which may have no text
abbrev pub value_of : Kind → Option (List ℕ) → Worth
value_of k None = unset
value_of k (Some t) = worth_by k t
