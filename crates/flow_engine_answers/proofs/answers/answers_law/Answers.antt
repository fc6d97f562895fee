use Rattle.flow_engine_answers.proofs.AnswerLawLemmas.{answers_are_one, first_bad_line_is_one, bad_lines_tell_nothing}
use Rattle.flow_engine_answers.proofs.AnswerEnds.{each_text_is_one_of_both}
use Rattle.flow_engine_answers.proofs.answers.answers_law.Goals as goal

pub returns : goal.returns
returns c = record {
  answers_are_one = answers_are_one;
  first_bad_line_is_one = first_bad_line_is_one;
  bad_lines_tell_nothing = bad_lines_tell_nothing;
  each_text_is_one_of_both = each_text_is_one_of_both;
}
