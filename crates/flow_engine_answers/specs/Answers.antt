-- Promise: What operators answered: a text of lines. The form is this project's own.
use Rattle.std.specs.Prelude.{◌≡◌, ◌≢◌, ◌⊎◌, ℕ, ◌+◌, ◌<◌, ◌≤◌, ◌^◌, ◌==◌, true, List, [], ◌∷◌, ◌++◌, All, filter, length, map, Some, slice_get}
use Rattle.std.specs.Fmt.{decimal}
use Rattle.std.specs.List.{flat_map}
use Rattle.std.specs.Str.{IsUtf8}
use Rattle.run_records.specs.Ranges.{most_status_text}
use Rattle.flow_core_rules.specs.Changes.{is_final}
use Rattle.flow_engine_answers.specs.declared.answers.OperatorAnswer.{OperatorAnswer}

-- the greatest number of a run
abbrev pub last_run : ℕ
last_run = 9_007_199_254_740_991

-- how an issue may end: a final status, and a text of at most 4,096 bytes of UTF-8
pub record IsOperatorAnswer (told : OperatorAnswer) : Type 0 where
  pub final : is_final told.status ≡ true
  pub is_text : IsUtf8 told.text
  pub short : length told.text ≤ most_status_text

-- A line, without its line feed, tells this of a run: the run's number, the issue's and the status in decimal, with a space between
-- them, and behind one more space a text of at most 4,096 bytes of UTF-8; or the three numbers alone, and the text is empty.
pub record Tells (line : List ℕ) (run : ℕ) (told : OperatorAnswer) : Type 0 where
  pub tail : List ℕ
  pub is : line ≡ decimal run ++ 32 ∷ (decimal told.issue ++ 32 ∷ (decimal told.status ++ tail))
  pub text : ((tail ≡ []) × (told.text ≡ [])) ⊎ (tail ≡ 32 ∷ told.text)
  pub run_low : 1 ≤ run
  pub run_high : run ≤ last_run
  pub issue_fits : told.issue < 2 ^ 32
  pub final : is_final told.status ≡ true
  pub is_text : IsUtf8 told.text
  pub short : length told.text ≤ most_status_text

-- no line feed stands in it
abbrev pub IsOneLine : List ℕ → Type 0
IsOneLine line = All (λ c. c ≢ 10) line

-- lines, each with its line feed
abbrev pub joined : List (List ℕ) → List ℕ
joined lines = flat_map (λ line. line ++ 10 ∷ []) lines

-- lines that tell this, each of a run
pub record AreTold (lines : List (List ℕ)) (told : List (ℕ × OperatorAnswer)) : Type 0 where
  pub many : length lines ≡ length told
  pub whole : All IsOneLine lines
  pub each : (n : ℕ) (line : List ℕ) (it : ℕ × OperatorAnswer) → slice_get lines n ≡ Some line → slice_get told n ≡ Some it
      → Tells line it.0 it.1

-- what the lines of one run tell
abbrev pub of_run : ℕ → List (ℕ × OperatorAnswer) → List OperatorAnswer
of_run run told = map (λ it. it.1) (filter (λ it. it.0 == run) told)

-- a text is lines, and of this run they tell this
pub record Answers (text : List ℕ) (run : ℕ) (answers : List OperatorAnswer) : Type 0 where
  pub lines : List (List ℕ)
  pub told : List (ℕ × OperatorAnswer)
  pub is : text ≡ joined lines
  pub are : AreTold lines told
  pub answers_are : answers ≡ of_run run told

-- the line with this number, from 1 on, is the first that tells nothing, or has no line feed
pub record IsFirstBadLine (text : List ℕ) (number : ℕ) : Type 0 where
  pub lines : List (List ℕ)
  pub told : List (ℕ × OperatorAnswer)
  pub rest : List ℕ
  pub is : text ≡ joined lines ++ rest
  pub are : AreTold lines told
  pub at : number ≡ length lines + 1
  pub some : rest ≢ []
  pub bad : (line after : List ℕ) (run : ℕ) (it : OperatorAnswer) → rest ≡ line ++ 10 ∷ after → IsOneLine line → Tells line run it
      → ⊥
