-- Each text is read to its end, or up to its first bad line.
use Rattle.std.proofs.Common.{◌≡◌, ◌≢◌, ◌≤◌, ℕ, ◌+◌, zero, suc, List, [], ◌∷◌, ◌⊎◌, length, Option, Some, None, refl, arith, inl, inr}
use Rattle.flow_engine_answers.specs.declared.answers.OperatorAnswer.{OperatorAnswer}
use Rattle.flow_engine_answers.specs.Answers.{Answers, IsFirstBadLine, of_run}
use Rattle.flow_engine_answers.specs.AnswerLaws.{EachTextIsOneOfBoth}
use Rattle.flow_engine_answers.specs.AnswerReading.{first_told}
use Rattle.flow_engine_answers.proofs.ToldLines.{IsReadUpTo, read_none, read_more, read_all, read_bad, first_shorter}
use Rattle.std.specs.Prelude.{◌++◌}

abbrev pub Ends : List ℕ → ℕ → Type 0
Ends text run = ((answers : List OperatorAnswer) × Answers text run answers) ⊎ ((number : ℕ) × IsFirstBadLine text number)

-- what is told of a run, and then this
abbrev and_told : ℕ → List OperatorAnswer → ℕ × OperatorAnswer → List OperatorAnswer
and_told run list it = list ++ of_run run (it ∷ [])

abbrev Goes : List ℕ → ℕ → ℕ → Type 0
Goes text run fuel = (rest : List ℕ) (number : ℕ) (list : List OperatorAnswer) → length rest ≤ fuel → IsReadUpTo text run rest number list → Ends text run

-- one line more, where there is one
go_on : (text : List ℕ) (run fuel : ℕ) → Goes text run fuel → (rest : List ℕ) (number : ℕ) (list : List OperatorAnswer) → length rest ≤ suc fuel → rest ≢ []
    → IsReadUpTo text run rest number list → (o : Option ((ℕ × OperatorAnswer) × List ℕ)) → first_told rest ≡ o → Ends text run
go_on text run fuel goes rest number list fits some h None e = inr (number, read_bad text run rest number list h some e)
go_on text run fuel goes rest number list fits some h (Some found) e =
    goes found.1 (number + 1) (and_told run list found.0) (omega (arith, fits, first_shorter rest found e))
    (read_more text run rest number list (and_told run list found.0) found h e refl)

reads : (text : List ℕ) (run fuel : ℕ) → Goes text run fuel
reads text run fuel [] number list fits h = inl (list, read_all text run [] number list h refl)
reads text run zero (c ∷ cs) number list fits h = absurd (omega (arith, fits))
reads text run (suc fuel) (c ∷ cs) number list fits h =
    go_on text run fuel (reads text run fuel) (c ∷ cs) number list fits (λ e. absurd (cc e)) h (first_told (c ∷ cs)) refl

pub each_text_is_one_of_both : EachTextIsOneOfBoth
each_text_is_one_of_both text run = reads text run (length text) text 1 [] (omega arith) (read_none text run)
