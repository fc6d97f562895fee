-- Scaffold: How a line is read: steps on lists that may fail.
use Rattle.std.specs.Prelude.{ℕ, ◌+◌, ◌==◌, List, take, drop, length, slice_index, Option, Some, None, option_map, option_and_then, nat_le, ◌&&◌, not, Bool, if◌then◌else◌}
use Rattle.std.specs.List.{position, list_any}
use Rattle.base_decimals.specs.Numbers.{number}
use Rattle.cacao_site.specs.declared.parcel.Parcel.{Parcel}
use Rattle.oc2_wire_lines.specs.Lines.{last_agent, last_issue, last_run, letter, line_feed, most_text, space}
use Rattle.oc2_wire_lines.specs.declared.reading.Fields.{Fields}

infixl 10 ◌>>=◌
abbrev pub ◌>>=◌ : {A B : Type 0} → Option A → (A → Option B) → Option B
o >>= f = option_and_then f o

-- what stands before the first such byte, and what stands behind it
unfoldable pub cut : ℕ → List ℕ → Option (List ℕ × List ℕ)
cut byte text = option_map (λ i. (take i text, drop (i + 1) text)) (position (λ c. c == byte) text)

-- a number of at most that much and a space, and what stands behind them
unfoldable pub numbered : ℕ → List ℕ → Option (ℕ × List ℕ)
numbered most text = do
  parts ← cut space text
  n ← number most parts.0
  Some (n, parts.1)

-- the letter of those that go this way and a space, and what stands behind them
unfoldable pub behind_letter : Bool → List ℕ → Option (List ℕ)
behind_letter back line = do
  parts ← cut space line
  if length parts.0 == 1 && slice_index parts.0 0 == letter back then Some parts.1 else None

unfoldable pub is_one_line : List ℕ → Bool
is_one_line bytes = not (list_any (λ c. c == line_feed) bytes)

-- one line, and not too long
unfoldable pub is_text : List ℕ → Bool
is_text bytes = is_one_line bytes && nat_le (length bytes) most_text

-- the parcel of a line, of those that go this way
unfoldable pub line_read : Bool → List ℕ → Option Parcel
line_read back line = do
  rest ← behind_letter back line
  agent ← numbered last_agent rest
  run ← numbered last_run agent.1
  issue ← numbered last_issue run.1
  if nat_le 1 agent.0 && nat_le 1 run.0 && is_text issue.1
      then Some (record { agent = agent.0; back = back; run = run.0; issue = issue.0; bytes = issue.1 }) else None

-- the parcel that has these fields
abbrev pub parcel_of : Bool → Fields → Parcel
parcel_of back fields = record { agent = fields.agent; back = back; run = fields.run; issue = fields.issue; bytes = fields.text.now }
