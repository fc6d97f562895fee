-- Promise: What holds of all texts of operators' answers.
use Rattle.std.specs.Prelude.{◌≡◌, ◌⊎◌, ℕ, List}
use Rattle.flow_engine_answers.specs.Answers.{Answers, IsFirstBadLine}
use Rattle.flow_engine_answers.specs.declared.answers.OperatorAnswer.{OperatorAnswer}

-- what a text tells of a run is one list
abbrev pub AnswersAreOne : Type 0
AnswersAreOne =
    (text : List ℕ) (run : ℕ) (one other : List OperatorAnswer) → Answers text run one → Answers text run other → one ≡ other

-- the first bad line of a text has one number
abbrev pub FirstBadLineIsOne : Type 0
FirstBadLineIsOne = (text : List ℕ) (one other : ℕ) → IsFirstBadLine text one → IsFirstBadLine text other → one ≡ other

-- a text with a bad line tells nothing, of no run
abbrev pub BadLinesTellNothing : Type 0
BadLinesTellNothing =
    (text : List ℕ) (run number : ℕ) (answers : List OperatorAnswer) → IsFirstBadLine text number → Answers text run answers → ⊥

-- a text tells something of a run, or has a first bad line
abbrev pub EachTextIsOneOfBoth : Type 0
EachTextIsOneOfBoth =
    (text : List ℕ) (run : ℕ)
    → ((answers : List OperatorAnswer) × Answers text run answers) ⊎ ((number : ℕ) × IsFirstBadLine text number)
