-- Scaffold: How a line of operators' answers is read: steps on lists that may fail.
use Rattle.std.specs.Prelude.{ℕ, ◌+◌, ◌==◌, List, [], take, drop, length, Option, Some, None, option_map, option_and_then, unwrap_or, nat_le, ◌&&◌, Bool, if◌then◌else◌}
use Rattle.std.specs.List.{position}
use Rattle.std.specs.Str.{is_utf8}
use Rattle.base_decimals.specs.Numbers.{number}
use Rattle.run_records.specs.Ranges.{most_status_text}
use Rattle.flow_core_rules.specs.Changes.{is_final}
use Rattle.flow_engine_answers.specs.Answers.{last_run}
use Rattle.flow_engine_answers.specs.declared.answers.OperatorAnswer.{OperatorAnswer}
use Rattle.flow_engine_answers.specs.declared.told_line.ToldLine.{ToldLine}

infixl 10 ◌>>=◌
abbrev pub ◌>>=◌ : {A B : Type 0} → Option A → (A → Option B) → Option B
o >>= f = option_and_then f o

-- what stands before the first such byte, and what stands behind it
unfoldable pub cut : ℕ → List ℕ → Option (List ℕ × List ℕ)
cut byte text = option_map (λ i. (take i text, drop (i + 1) text)) (position (λ c. c == byte) text)

-- a number of at most that much and a space, and what stands behind them
unfoldable pub numbered : ℕ → List ℕ → Option (ℕ × List ℕ)
numbered most text = do
  parts ← cut 32 text
  n ← number most parts.0
  Some (n, parts.1)

-- what stands before the first space, or all
unfoldable pub last_parts : List ℕ → List ℕ × List ℕ
last_parts text = unwrap_or (cut 32 text) (text, [])

-- a final status
unfoldable pub final_status : List ℕ → Option ℕ
final_status text = do
  status ← number 65_535 text
  if is_final status then Some status else None

-- UTF-8, and not too long
unfoldable pub is_text : List ℕ → Bool
is_text text = is_utf8 text && nat_le (length text) most_status_text

-- a status, and the text behind it
unfoldable pub ending : List ℕ → Option (ℕ × List ℕ)
ending text = do
  status ← final_status (last_parts text).0
  if is_text (last_parts text).1 then Some (status, (last_parts text).1) else None

-- the run of a line, and what it tells of it
unfoldable pub line_told : List ℕ → Option (ℕ × OperatorAnswer)
line_told line = do
  first ← numbered last_run line
  second ← numbered 4_294_967_295 first.1
  end ← ending second.1
  if nat_le 1 first.0 then Some (first.0, record { issue = second.0; status = end.0; text = end.1 }) else None

-- the same of the first line of a text, and what stands behind that line
unfoldable pub first_told : List ℕ → Option ((ℕ × OperatorAnswer) × List ℕ)
first_told text = do
  parts ← cut 10 text
  it ← line_told parts.0
  Some (it, parts.1)

-- what a line that was read tells
abbrev pub told_of : ToldLine → ℕ × OperatorAnswer
told_of told = (told.run, record { issue = told.issue; status = told.status; text = told.text.now })
