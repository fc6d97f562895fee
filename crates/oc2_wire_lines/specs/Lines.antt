-- Promise: The lines by which parcels go over a wire.
use Rattle.std.specs.Prelude.{◌≡◌, ◌≢◌, ℕ, ◌+◌, ◌≤◌, Bool, List, [], ◌∷◌, ◌++◌, length, All, Contains, Option, Some, None, if◌then◌else◌}
use Rattle.std.specs.Fmt.{decimal}
use Rattle.cacao_site.specs.declared.parcel.Parcel.{Parcel}

abbrev pub line_feed : ℕ
line_feed = 10

abbrev pub space : ℕ
space = 32

abbrev pub last_agent : ℕ
last_agent = 16

abbrev pub last_run : ℕ
last_run = 9_007_199_254_740_991

abbrev pub last_issue : ℕ
last_issue = 4_294_967_295

-- the most bytes of a text, and of a line with its line feed
abbrev pub most_text : ℕ
most_text = 1_048_576

abbrev pub most_line : ℕ
most_line = 1_048_610

-- no byte is a line feed
abbrev pub IsOneLine : List ℕ → Type 0
IsOneLine bytes = All (λ c. c ≢ line_feed) bytes

-- `r` of a reply, `c` of a command
abbrev pub letter : Bool → ℕ
letter back = if back then 114 else 99

-- the line of a parcel: its letter, its agent, run and issue in decimal, and its bytes
abbrev pub line_of : Parcel → List ℕ
line_of parcel = letter parcel.back ∷ space ∷ (decimal parcel.agent ++ space ∷ (decimal parcel.run ++ space ∷ (decimal parcel.issue
    ++ space ∷ (parcel.bytes ++ line_feed ∷ []))))

-- the line that tells that a line carried nothing: `n`
abbrev pub nothing_line : List ℕ
nothing_line = 110 ∷ line_feed ∷ []

-- the parcels that a line can carry
pub record IsCarried (parcel : Parcel) : Type 0 where
  pub agent_low : 1 ≤ parcel.agent
  pub agent_high : parcel.agent ≤ last_agent
  pub run_low : 1 ≤ parcel.run
  pub run_high : parcel.run ≤ last_run
  pub issue_high : parcel.issue ≤ last_issue
  pub short : length parcel.bytes ≤ most_text
  pub one_line : IsOneLine parcel.bytes

-- a line, without its line feed, is that of this parcel
pub record Spells (line : List ℕ) (parcel : Parcel) : Type 0 where
  pub carried : IsCarried parcel
  pub is : line ++ line_feed ∷ [] ≡ line_of parcel

-- a line is that of no parcel that goes this way
abbrev pub IsOther : Bool → List ℕ → Type 0
IsOther back line = (parcel : Parcel) → Spells line parcel → parcel.back ≡ back → ⊥

-- what a line is at an end that gets the parcels that go one way: one of these, or it is passed over
pub data Reads (back : Bool) (line : List ℕ) : Option Parcel → Type 0 where
  carries : (parcel : Parcel) → Spells line parcel → parcel.back ≡ back → Reads back line (Some parcel)
  passes : IsOther back line → Reads back line None

-- the bytes begin with this line and its line feed, and this stands behind it
pub record BeginsWithLine (bytes line rest : List ℕ) : Type 0 where
  pub is : bytes ≡ line ++ line_feed ∷ rest
  pub one_line : IsOneLine line

-- lines in a row, each with its line feed
abbrev pub joined : List (List ℕ) → List ℕ
joined [] = []
joined (line ∷ lines) = line ++ line_feed ∷ joined lines

-- the bytes are these lines, none of which is too long, and the rest
pub record AreLines (bytes : List ℕ) (lines : List (List ℕ)) (rest : List ℕ) : Type 0 where
  pub is : bytes ≡ joined lines ++ rest
  pub each : (line : List ℕ) → Contains lines line → IsOneLine line × (length line + 1 ≤ most_line)
