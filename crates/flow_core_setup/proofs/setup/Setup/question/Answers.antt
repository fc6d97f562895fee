use Rattle.std.proofs.Common.{◌∙◌, ap, List, ℕ, Option}
use Rattle.std.specs.Prelude.{option_and_then, slice_get}
use Rattle.cacao_book.specs.declared.steps.Step.{Step}
use Rattle.cacao_check_steps.specs.Uses.{commands_of}
use Rattle.flow_core_rules.specs.Givens.{step_at}
use Rattle.flow_core_texts.specs.Questions.{question_of}
use Rattle.flow_core_setup.proofs.WordLemmas.{no_words, question_read}
use Rattle.flow_core_setup.proofs.setup.Setup.question.Goals as goal

pub returns-in_default : goal.returns-in_default
returns-in_default c = no_words (λ (s : Step). option_and_then question_of (slice_get (commands_of s.kind) c.args.command)) (step_at c.args.self.now c.args.book c.args.step) c.in_default.ensures

pub returns : goal.returns
returns c =
    c.question_in.ensures ∙ ap (λ (questions : List (Option (List ℕ))). option_and_then (λ question. question) (slice_get questions c.args.command)) c.as_slice.ensures.value
    ∙ question_read c.in-Some.words.now (step_at c.args.self.now c.args.book c.args.step) c.args.command c.in-Some.ensures
