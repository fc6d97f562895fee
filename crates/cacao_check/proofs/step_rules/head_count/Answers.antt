use Rattle.std.proofs.Common.{◌∙◌, sym, ap, length}
use Rattle.std.proofs.lemmas.List.{length-map}
use Rattle.cacao_book.specs.declared.cases.Case.{Case}
use Rattle.cacao_check.proofs.step_rules.head_count.Goals as goal

pub returns-in-Switch : goal.returns-in-Switch
returns-in-Switch c = rw c.in-Switch.is (ap length c.as_slice-in-Switch.ensures ∙ sym (length-map _ (λ (one : Case). one.step)))
