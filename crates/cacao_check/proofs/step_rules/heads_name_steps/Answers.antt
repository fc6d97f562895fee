use Rattle.std.proofs.Common.{◌∙◌}
use Rattle.cacao_book.specs.Steps.{place_of}
use Rattle.cacao_check_steps.specs.Links.{head_keys}
use Rattle.cacao_check.proofs.HeadLemmas.{all_found}
use Rattle.cacao_check.proofs.step_rules.heads_name_steps.Goals as goal

pub returns : goal.returns
returns c =
    all_found (place_of c.args.book.now.steps) (head_keys c.args.step.now.kind) c.as_slice.result.now c.head_count.result
    (c.as_slice.ensures ∙ c.requires) c.head_count.ensures
