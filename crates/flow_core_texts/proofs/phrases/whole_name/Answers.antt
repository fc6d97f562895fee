use Rattle.std.proofs.Common.{Some, sym, ap, ◌∙◌}
use Rattle.flow_core_texts.proofs.WholeLemmas.{whole_some, whole_none}
use Rattle.flow_core_texts.proofs.phrases.whole_name.Goals as goal

pub returns-in_default : goal.returns-in_default
returns-in_default c = sym (whole_none c.args.text.now c.in_default.ensures)

pub returns : goal.returns
returns c = ap (λ n. Some n) c.in_ok-name.ensures ∙ sym (whole_some c.args.text.now c.in-Some.found.now c.in-Some.ensures.0 c.in-Some.ensures.1)
