use Rattle.std.proofs.Common.{◌∙◌, ap}
use Rattle.std.specs.Prelude.{option_map, option_and_then, slice_get}
use Rattle.cacao_book.specs.declared.steps.Step.{Step}
use Rattle.cacao_check_steps.specs.Uses.{commands_of, content_tree}
use Rattle.flow_core_rules.specs.Givens.{step_at}
use Rattle.flow_core_texts.specs.Contents.{content_data}
use Rattle.flow_core_setup.proofs.WordLemmas.{no_words, content_read}
use Rattle.flow_core_setup.proofs.setup.Setup.content.Goals as goal

pub returns-in_default : goal.returns-in_default
returns-in_default c = no_words (λ (s : Step). option_and_then content_tree (slice_get (commands_of s.kind) c.args.command)) (step_at c.args.self.now c.args.book c.args.step) c.in_default.ensures

pub returns : goal.returns
returns c =
    c.content_in.ensures ∙ ap (λ contents. option_and_then (option_map content_data) (slice_get contents c.args.command)) c.as_slice.ensures.value
    ∙ content_read c.in-Some.words.now (step_at c.args.self.now c.args.book c.args.step) c.args.command c.in-Some.ensures
