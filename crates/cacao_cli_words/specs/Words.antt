-- Promise: The words behind the command, read from left to right: options, each at most once and with its value, and names.
use Rattle.std.specs.Prelude.{ℕ, Bool, false, not, ◌==◌, ◌&&◌, nat_lt, nat_le, List, [], ◌∷◌, ◌++◌, length, codes}
use Rattle.std.specs.Prelude.{Option, Some, None, if◌then◌else◌, option_and_then}
use Rattle.std.specs.List.{list_any, list_all, before_first, after_first}
use Rattle.std.specs.Str.{bytes_eq}

abbrev pub Text : Type 0
Text = List ℕ

abbrev pub begins_hyphen : Text → Bool
begins_hyphen [] = false
begins_hyphen (c ∷ cs) = c == 45

-- the word that ends the options
abbrev pub dashes : Text
dashes = codes "--"

abbrev pub has_equals : Text → Bool
has_equals = list_any (λ c. c == 61)

-- `--x` or `--x=V`, as x and the V behind the first `=`
abbrev pub option_in : Text → Option (Text × Option Text)
option_in (a ∷ b ∷ c ∷ cs) = if (a == 45) && (b == 45)
    then Some (
      before_first (λ x. x == 61) (c ∷ cs),
      if has_equals (c ∷ cs) then Some (after_first (λ x. x == 61) (c ∷ cs))
          else None,
    )
    else None
option_in (a ∷ b ∷ []) = None
option_in (a ∷ []) = None
option_in [] = None

-- what the words give
pub record Reading : Type 0 where
  pub options : List (Text × Text)
  pub names : List Text

abbrev pub nothing_read : Reading
nothing_read = record { options = []; names = [] }

abbrev pub is_known : List Text → Text → Bool
is_known known x = list_any (λ y. bytes_eq y x) known

abbrev pub value_in : Text → List (Text × Text) → Option Text
value_in x [] = None
value_in x (p ∷ ps) = if bytes_eq p.0 x then Some p.1 else value_in x ps

abbrev pub has_value : Text → List (Text × Text) → Bool
has_value x options = list_any (λ p. bytes_eq p.0 x) options

abbrev pub with_name : Text → Reading → Reading
with_name word r = record r { names = r.names ++ word ∷ [] }

abbrev pub with_option : Text → Text → Reading → Reading
with_option x value r = record r { options = (x, value) ∷ r.options }

-- where a word stands
pub data Place : Type 0 where
  before_dashes : Place  -- an option or a name
  behind_dashes : Place  -- a name
  behind_option : (option : Text) → Place  -- the value of this option

-- what was read, and where the next word stands
pub record State : Type 0 where
  pub reading : Reading
  pub place : Place

abbrev pub at : Reading → Place → State
at r place = record { reading = r; place = place }

-- a name begins with no hyphen
abbrev pub after_name : Place → Reading → Text → Option State
after_name place r word = if begins_hyphen word then None else Some (at (with_name word r) place)

-- nor does a value that is a word of its own
abbrev pub after_value : Reading → Text → Text → Option State
after_value r x word = if begins_hyphen word then None else Some (at (with_option x word r) before_dashes)

abbrev pub after_option : Reading → Text → Option Text → State
after_option r x None = at r (behind_option x)
after_option r x (Some value) = at (with_option x value r) before_dashes

-- an option of the command that was not given before, else a name
abbrev pub after_word : List Text → Reading → Text → Option (Text × Option Text) → Option State
after_word known r word None = after_name before_dashes r word
after_word known r word (Some o) =
    if is_known known o.0 && not (has_value o.0 r.options) then Some (after_option r o.0 o.1) else None

-- the state behind one more word
abbrev pub next : List Text → Reading → Place → Text → Option State
next known r before_dashes word =
    if bytes_eq word dashes then Some (at r behind_dashes) else after_word known r word (option_in word)
next known r behind_dashes word = after_name behind_dashes r word
next known r (behind_option x) word = after_value r x word

-- an option without its value has no reading
abbrev pub at_end : Reading → Place → Option Reading
at_end r before_dashes = Some r
at_end r behind_dashes = Some r
at_end r (behind_option x) = None

unfoldable pub read_from : List Text → Reading → Place → List Text → Option Reading
read_from known r place [] = at_end r place
read_from known r place (word ∷ words) = option_and_then (λ s. read_from known s.reading s.place words) (next known r place word)

-- a name or a value has 1 to 1,024 bytes
abbrev pub fits : Text → Bool
fits text = nat_lt 0 (length text) && nat_le (length text) 1024

abbrev pub if_fits : Reading → Option Reading
if_fits r = if list_all fits r.names && list_all (λ p. fits p.1) r.options then Some r else None

-- the reading of the words behind a command with these options
abbrev pub read : List Text → List Text → Option Reading
read known words = option_and_then if_fits (read_from known nothing_read before_dashes words)
