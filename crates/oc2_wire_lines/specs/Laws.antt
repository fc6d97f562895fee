-- Promise: The laws of the lines of a wire.
use Rattle.std.specs.Prelude.{◌≡◌, ℕ, ◌≤◌, List, [], ◌∷◌, ◌++◌, length, Option, Some}
use Rattle.cacao_site.specs.declared.parcel.Parcel.{Parcel}
use Rattle.oc2_wire_lines.specs.Lines.{AreLines, IsCarried, IsOneLine, Reads, Spells, line_feed, line_of, most_line}

-- a line is that of at most one parcel
abbrev pub LinesSpellOne : Type 0
LinesSpellOne = (line : List ℕ) (a b : Parcel) → Spells line a → Spells line b → a ≡ b

-- what a line is at an end is one thing
abbrev pub LinesReadOneWay : Type 0
LinesReadOneWay = (back : _) (line : List ℕ) (a b : Option Parcel) → Reads back line a → Reads back line b → a ≡ b

-- the line of a parcel that it carries has one line feed, at its end, is no longer than the most, and reads back
pub record HasLine (parcel : Parcel) (line : List ℕ) : Type 0 where
  pub is : line_of parcel ≡ line ++ line_feed ∷ []
  pub one_line : IsOneLine line
  pub short : length (line_of parcel) ≤ most_line
  pub spells : Spells line parcel
  pub reads : Reads parcel.back line (Some parcel)

abbrev pub CarriedReadBack : Type 0
CarriedReadBack = (parcel : Parcel) → IsCarried parcel → (line : List ℕ) × HasLine parcel line

-- Of two ways to cut the same bytes into lines and a rest, one has the lines of the other, and maybe more: so the line with a
-- number is one.
abbrev pub LinesAreCutOneWay : Type 0
LinesAreCutOneWay = (bytes : List ℕ) (few many : List (List ℕ)) (a b : List ℕ) → AreLines bytes few a → AreLines bytes many b
    → length few ≤ length many → (more : List (List ℕ)) × (many ≡ few ++ more)

-- bytes that come behind change no line
abbrev pub LinesStay : Type 0
LinesStay = (bytes more : List ℕ) (lines : List (List ℕ)) (rest : List ℕ) → AreLines bytes lines rest
    → AreLines (bytes ++ more) lines (rest ++ more)

-- the lines in a front of what was sent are lines that were sent, in their order
abbrev pub FrontsHaveSentLines : Type 0
FrontsHaveSentLines = (received more rest part : List ℕ) (lines sent : List (List ℕ)) → AreLines (received ++ more) sent part
    → IsOneLine part → AreLines received lines rest → (others : List (List ℕ)) × (sent ≡ lines ++ others)
