-- Promise: How the reader goes through a text from the left: each step answers what it read and what is left, or nothing.
-- The grammar is in `Grammar`; these steps tell nothing else.
use Rattle.std.specs.Prelude.{◌≡◌, ℕ, ℤ, zero, suc, ◌-◌, ◌&&◌, ◌==◌, ◌||◌, nat_le, nat_lt, nat_eq, ◌^◌, negsuc, Bool, true, false, List, [], ◌∷◌, ◌++◌, length, drop, codes, pos, Option, Some, None, option_map, Result, Ok, Err, if◌then◌else◌}
use Rattle.std.specs.List.{starts_with}
use Rattle.std.specs.Option.{option_map_or}
use Rattle.std.specs.Str.{is_utf8}
use Rattle.base_decimals.specs.Numbers.{number}
use Rattle.cacao_vars.specs.References.{begins_with_reference, name_run, behind_run}
use Rattle.cacao_cond.specs.declared.errors.CondError.{CondError}
use Rattle.cacao_cond.specs.declared.errors.CondError.TheVariants.{Grammar, Memory}
use Rattle.cacao_cond.specs.declared.trees.Op.{Op}
use Rattle.cacao_cond.specs.declared.trees.Op.TheVariants.{Equal, Unequal, Less, AtMost, More, AtLeast}
use Rattle.cacao_cond.specs.declared.trees.Constant.{Constant}
use Rattle.cacao_cond.specs.declared.trees.Constant.TheVariants.{Whole, Flag, Text}
use Rattle.cacao_cond.specs.Trees.{ConstantTree, AnyTree, AllTree, PrimeTree}
use Rattle.cacao_cond.specs.Trees.ConstantTree.{last_constant, more_constants}
use Rattle.cacao_cond.specs.Trees.AnyTree.{last_part, or_else}
use Rattle.cacao_cond.specs.Trees.AllTree.{last_prime, and_also}
use Rattle.cacao_cond.specs.Trees.PrimeTree.{group, compared, among}

-- a step, and then another on what it read
infixl 10 ◌>>=◌
abbrev pub ◌>>=◌ : {A B : Type 0} → Option A → (A → Option B) → Option B
None >>= f = None
(Some x) >>= f = f x

-- a text without the spaces before it
abbrev pub skipped : List ℕ → List ℕ
skipped [] = []
skipped (c ∷ cs) = if c == 32 then skipped cs else c ∷ cs

abbrev pub begins : ℕ → List ℕ → Bool
begins b [] = false
begins b (c ∷ cs) = c == b

-- what is left behind a word
abbrev pub behind : List ℕ → List ℕ → Option (List ℕ)
behind word text = if starts_with nat_eq text word then Some (drop (length word) text) else None

-- a connective with spaces on both sides
abbrev pub behind_joint : List ℕ → List ℕ → Option (List ℕ)
behind_joint word text =
    if begins 32 text then (behind word (skipped text) >>= λ rest. if begins 32 rest then Some (skipped rest) else None) else None

abbrev pub reference_at : List ℕ → Option (List ℕ × List ℕ)
reference_at text = if begins_with_reference text then Some (name_run text, drop 6 (behind_run text)) else None

abbrev pub op_at : List ℕ → Option (Op × List ℕ)
op_at [] = None
op_at (c ∷ cs) =
    if c == 61 then Some (Equal, if begins 61 cs then drop 1 cs else cs)
    else if c == 33 then (if begins 61 cs then Some (Unequal, drop 1 cs) else None)
    else if c == 60
    then (if begins 62 cs then Some (Unequal, drop 1 cs) else if begins 61 cs then Some (AtMost, drop 1 cs) else Some (Less, cs))
    else if c == 62 then (if begins 61 cs then Some (AtLeast, drop 1 cs) else Some (More, cs))
    else None

abbrev pub is_digit : ℕ → Bool
is_digit c = nat_le 48 c && nat_le c 57

-- the digits that a text begins with, and what follows them
abbrev pub digit_run : List ℕ → List ℕ
digit_run [] = []
digit_run (c ∷ cs) = if is_digit c then c ∷ digit_run cs else []

abbrev pub behind_digits : List ℕ → List ℕ
behind_digits [] = []
behind_digits (c ∷ cs) = if is_digit c then behind_digits cs else c ∷ cs

-- the number below 2 ^ 64 whose decimal text this is
abbrev pub number_of : List ℕ → Option ℕ
number_of digits = number 18_446_744_073_709_551_615 digits

abbrev pub negative_of : ℕ → Option ℤ
negative_of n = if nat_le 1 n && nat_le n (2 ^ 63) then Some (negsuc (n - 1)) else None

abbrev pub positive_of : ℕ → Option ℤ
positive_of n = if nat_lt n (2 ^ 63) then Some (pos n) else None

abbrev pub whole_at : List ℕ → Option (ℤ × List ℕ)
whole_at text =
    if begins 45 text
    then (number_of (digit_run (drop 1 text)) >>= negative_of >>= λ z. Some (z, behind_digits (drop 1 text)))
    else (number_of (digit_run text) >>= positive_of >>= λ z. Some (z, behind_digits text))

abbrev pub with_first : ℕ → List ℕ × List ℕ → List ℕ × List ℕ
with_first c read = (c ∷ read.0, read.1)

-- the same with more characters in front
abbrev pub with_front : List ℕ → List ℕ × List ℕ → List ℕ × List ℕ
with_front front read = (front ++ read.0, read.1)

-- a text up to its closing quotation mark; first, whether a backslash stands before it
abbrev pub quoted : Bool → List ℕ → Option (List ℕ × List ℕ)
quoted is_escaped [] = None
quoted true (c ∷ cs) = if (c == 39) || (c == 92) then option_map (with_first c) (quoted false cs) else None
quoted false (c ∷ cs) =
    if c == 39 then Some ([], cs) else if c == 92 then quoted true cs else option_map (with_first c) (quoted false cs)

abbrev pub text_of : List ℕ × List ℕ → Option (Constant × List ℕ)
text_of read = if is_utf8 read.0 then Some (Text read.0, read.1) else None

abbrev pub constant_at : List ℕ → Option (Constant × List ℕ)
constant_at text =
    if begins 39 text then quoted false (drop 1 text) >>= text_of
    else if starts_with nat_eq text (codes "true") then Some (Flag true, drop 4 text)
    else if starts_with nat_eq text (codes "false") then Some (Flag false, drop 5 text)
    else (whole_at text >>= λ read. Some (Whole read.0, read.1))

abbrev pub constants_at : ℕ → List ℕ → Option (ConstantTree × List ℕ)
constants_at zero text = None
constants_at (suc n) text = constant_at text >>= λ first.
    option_map_or (λ rest. constants_at n (skipped rest) >>= λ others. Some (more_constants first.0 others.0, others.1))
    (behind (codes ",") (skipped first.1)) (Some (last_constant first.0, first.1))

-- behind a name: an operator and a constant
abbrev pub compared_at : List ℕ → Op → List ℕ → Option (PrimeTree × List ℕ)
compared_at name op text = constant_at (skipped text) >>= λ value. Some (compared name op value.0, value.1)

-- behind a name: `IN` and an opening parenthesis
abbrev pub opening_at : List ℕ → Option (List ℕ)
opening_at text =
    if begins 32 text
    then (behind (codes "IN") (skipped text) >>= λ a. behind (codes "(") (skipped a) >>= λ b. Some (skipped b)) else None

-- and constants, and a closing one
abbrev pub among_at : ℕ → List ℕ → List ℕ → Option (PrimeTree × List ℕ)
among_at n name text =
    opening_at text >>= λ a. constants_at n a >>= λ list. behind (codes ")") (skipped list.1)
    >>= λ rest. Some (among name list.0, rest)

abbrev pub comparison_at : ℕ → List ℕ × List ℕ → Option (PrimeTree × List ℕ)
comparison_at n name = option_map_or (λ op. compared_at name.0 op.0 op.1) (op_at (skipped name.1)) (among_at n name.0 name.1)

-- behind a part: `OR` and others, or nothing more
abbrev pub or_behind : (List ℕ → Option (AnyTree × List ℕ)) → AllTree × List ℕ → Option (AnyTree × List ℕ)
or_behind read first =
    option_map_or (λ rest. read rest >>= λ others. Some (or_else first.0 others.0, others.1))
    (behind_joint (codes "OR") first.1) (Some (last_part first.0, first.1))

-- behind a part: `AND` and others, or nothing more
abbrev pub and_behind : (List ℕ → Option (AllTree × List ℕ)) → PrimeTree × List ℕ → Option (AllTree × List ℕ)
and_behind read first =
    option_map_or (λ rest. read rest >>= λ others. Some (and_also first.0 others.0, others.1))
    (behind_joint (codes "AND") first.1) (Some (last_prime first.0, first.1))

-- behind a condition in parentheses: the closing one
abbrev pub group_behind : AnyTree × List ℕ → Option (PrimeTree × List ℕ)
group_behind inner = behind (codes ")") (skipped inner.1) >>= λ rest. Some (group inner.0, rest)

-- a comparison, from its name on
abbrev pub named_at : ℕ → List ℕ → Option (PrimeTree × List ℕ)
named_at n text = reference_at text >>= comparison_at n

abbrev mutual
  pub any_at : ℕ → List ℕ → Option (AnyTree × List ℕ)
  any_at zero text = None
  any_at (suc n) text = all_at n text >>= λ first.
      option_map_or (λ rest. any_at n rest >>= λ others. Some (or_else first.0 others.0, others.1))
      (behind_joint (codes "OR") first.1) (Some (last_part first.0, first.1))

  pub all_at : ℕ → List ℕ → Option (AllTree × List ℕ)
  all_at zero text = None
  all_at (suc n) text = prime_at n text >>= λ first.
      option_map_or (λ rest. all_at n rest >>= λ others. Some (and_also first.0 others.0, others.1))
      (behind_joint (codes "AND") first.1) (Some (last_prime first.0, first.1))

  pub prime_at : ℕ → List ℕ → Option (PrimeTree × List ℕ)
  prime_at zero text = None
  prime_at (suc n) text =
      if begins 40 text
      then (any_at n (skipped (drop 1 text)) >>= λ inner. behind (codes ")") (skipped inner.1)
      >>= λ rest. Some (group inner.0, rest))
      else reference_at text >>= comparison_at n

-- a whole condition
abbrev pub condition_at : ℕ → List ℕ → Option AnyTree
condition_at n text = any_at n (skipped text) >>= λ read. if length (skipped read.1) == 0 then Some read.0 else None

-- an error is the grammar's where the step gives nothing
abbrev pub Fails : {Y : Type 0} → CondError → Option Y → Type 0
Fails Grammar read = read ≡ None
Fails Memory read = Unit {0}

-- What a reader returned, seen by `view`, is what the step gives, unless memory ran out.
abbrev pub Gives : {X Y : Type 0} → (X → Y) → Result X CondError → Option Y → Type 0
Gives view (Ok x) read = read ≡ Some (view x)
Gives view (Err e) read = Fails e read
