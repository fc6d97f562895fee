-- Worked texts of answers.
use Rattle.std.proofs.Common.{◌≡◌, ℕ, List, [], ◌∷◌, Some, None, refl, ap, sym}
use Rattle.std.specs.Prelude.{codes}
use Rattle.std.specs.Fmt.{digits}
use Rattle.std.specs.Str.{is_utf8, chars}
use lib.Utf8.{encode}
use Rattle.base_decimals.specs.Numbers.{number}
use Rattle.flow_engine_answers.specs.declared.answers.OperatorAnswer.{OperatorAnswer}
use Rattle.flow_engine_answers.specs.Answers.{Answers, IsFirstBadLine, of_run}
use Rattle.flow_engine_answers.specs.AnswerReading.{cut, numbered, last_parts, final_status, is_text, ending, line_told, first_told}
use Rattle.flow_engine_answers.proofs.ToldLines.{IsReadUpTo, read_none, read_more, read_all, read_bad}

-- the issue was closed, with a text
done_text : List ℕ
done_text = codes "7 0 200 done\n"

done_line : ℕ × OperatorAnswer
done_line = (7, record { issue = 0; status = 200; text = codes "done" })

done_told : first_told done_text ≡ Some (done_line, [])
unfolding done_text done_line cut numbered last_parts final_status is_text ending line_told first_told digits number is_utf8 chars encode
done_told = refl

of_7 : (told : ℕ × OperatorAnswer) → told ≡ done_line → of_run 7 (told ∷ []) ≡ (record { issue = 0; status = 200; text = codes "done" }) ∷ []
unfolding done_line
of_7 told e = ap (λ (t : ℕ × OperatorAnswer). of_run 7 (t ∷ [])) e

-- what it tells of run 7
pub done_is_told : Answers (codes "7 0 200 done\n") 7 ((record { issue = 0; status = 200; text = codes "done" }) ∷ [])
unfolding done_text
done_is_told =
    let read : IsReadUpTo done_text 7 [] 2 ((record { issue = 0; status = 200; text = codes "done" }) ∷ []) =
    read_more done_text 7 done_text 1 [] ((record { issue = 0; status = 200; text = codes "done" }) ∷ []) (done_line, []) (read_none done_text 7) done_told (sym (of_7 done_line refl)) in
    read_all done_text 7 [] 2 ((record { issue = 0; status = 200; text = codes "done" }) ∷ []) read refl

-- 102 ends no issue
pending_is_none : first_told (codes "7 0 102\n") ≡ None
unfolding cut numbered last_parts final_status is_text ending line_told first_told digits number is_utf8 chars encode
pending_is_none = refl

pub pending_is_bad : IsFirstBadLine (codes "7 0 102\n") 1
pending_is_bad = read_bad (codes "7 0 102\n") 7 (codes "7 0 102\n") 1 [] (read_none (codes "7 0 102\n") 7) (λ e. absurd (cc e)) pending_is_none

-- a number has no zero in front, and there is one space
zero_in_front : line_told (codes "07 0 200") ≡ None
unfolding cut numbered last_parts final_status is_text ending line_told digits number is_utf8 chars encode
zero_in_front = refl

two_spaces : line_told (codes "7  0 200") ≡ None
unfolding cut numbered last_parts final_status is_text ending line_told digits number is_utf8 chars encode
two_spaces = refl

-- a last line without its line feed is none
no_line_feed : first_told (codes "7 0 200 done") ≡ None
unfolding cut numbered last_parts final_status is_text ending line_told first_told digits number is_utf8 chars encode
no_line_feed = refl
