-- Promise: Whether the first bytes of a text are found to begin a JSON text: what closes their string and their brackets is put behind them.
use Rattle.std.specs.Prelude.{◌≡◌, ℕ, ◌-◌, ◌==◌, ◌&&◌, ◌||◌, ◌++◌, Bool, true, false, not, if◌then◌else◌, List, All, [], ◌∷◌, length, take, fold, codes, reverse, is_some}
use Rattle.cacao_json.specs.Reading.{reading}

-- where some bytes end: whether in a string, whether behind a backslash in it, and what closes the brackets that are open, the first one first
pub record Standing : Type 0 where
  pub in_string : Bool
  pub escaped : Bool
  pub closers : List ℕ

abbrev pub at_start : Standing
at_start = record { in_string = false; escaped = false; closers = [] }

abbrev pub closers_with : List ℕ → ℕ → List ℕ
closers_with closers byte =
    if byte == 123 then closers ++ 125 ∷ []
    else (if byte == 91 then closers ++ 93 ∷ []
    else (if (byte == 125) || (byte == 93) then take (length closers - 1) closers else closers))

-- behind one byte more
abbrev pub standing_with : Standing → ℕ → Standing
standing_with standing byte =
    if standing.in_string then
    record { in_string = standing.escaped || not (byte == 34); escaped = not standing.escaped && (byte == 92); closers = standing.closers }
    else record { in_string = byte == 34; escaped = false; closers = closers_with standing.closers byte }

abbrev pub standing_behind : List ℕ → Standing
standing_behind bytes = fold standing_with at_start bytes

-- what closes the string, if one is open
abbrev pub string_closing : Bool → Bool → List ℕ
string_closing in_string escaped = if escaped then codes "n\"" else (if in_string then codes "\"" else [])

-- what closes the string and the brackets, with other bytes between
abbrev pub closing : Standing → List ℕ → List ℕ
closing standing middle = string_closing standing.in_string standing.escaped ++ middle ++ reverse standing.closers

-- closed so, with these bytes between, they are JSON text
abbrev pub closes_with : List ℕ → List ℕ → Bool
closes_with front middle = is_some (reading (front ++ closing (standing_behind front) middle))

-- the bytes are found to begin a JSON text: closed so they are one, with nothing between, or a value, the value of a name, or a member
abbrev pub is_begun : List ℕ → Bool
is_begun front =
    if closes_with front (codes "") then true
    else (if closes_with front (codes "0") then true
    else (if closes_with front (codes ":0") then true else closes_with front (codes "\"\":0")))

-- what may be left of a word, of an escape of a character, or of that of its second half; a number wants no more than a digit
abbrev pub rests : List (List ℕ)
rests =
    codes "" ∷ codes "e" ∷ codes "ue" ∷ codes "rue" ∷ codes "se" ∷ codes "lse" ∷ codes "alse" ∷ codes "l" ∷ codes "ll" ∷ codes "ull"
    ∷ codes "0" ∷ codes "00" ∷ codes "000" ∷ codes "0000" ∷ codes "C00" ∷ codes "DC00" ∷ codes "uDC00" ∷ codes "\\uDC00" ∷ codes "0\\uDC00" ∷ codes "00\\uDC00" ∷ []

-- the bytes are not found to begin a JSON text, whatever of these stands behind them
abbrev pub IsDead : List ℕ → Type 0
IsDead front = All (λ rest. is_begun (front ++ rest) ≡ false) rests
