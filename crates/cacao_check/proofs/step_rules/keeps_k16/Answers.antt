use Rattle.std.proofs.Common.{◌∙◌, sym, List, ℕ, is_some}
use Rattle.cacao_book.specs.Steps.{place_of}
use Rattle.cacao_check_steps.specs.Links.{next_keys, head_keys}
use Rattle.cacao_check.proofs.RuleLemmas.{all_appended, none_appended}
use Rattle.cacao_check.proofs.step_rules.keeps_k16.Goals as goal

pub returns-then-next_name_steps : goal.returns-then-next_name_steps
returns-then-next_name_steps c =
    all_appended (λ (key : List ℕ). is_some (place_of c.args.book.now.steps key)) (next_keys c.args.step.now) (head_keys c.args.step.now.kind) c.heads_name_steps.result
    (sym c.next_name_steps.ensures ∙ c.if-next_name_steps.true) c.heads_name_steps.ensures

pub returns-else-next_name_steps : goal.returns-else-next_name_steps
returns-else-next_name_steps c =
    none_appended (λ (key : List ℕ). is_some (place_of c.args.book.now.steps key)) (next_keys c.args.step.now) (head_keys c.args.step.now.kind) c.next_name_steps.result c.if-next_name_steps.false
    (sym c.next_name_steps.ensures ∙ c.if-next_name_steps.false)
