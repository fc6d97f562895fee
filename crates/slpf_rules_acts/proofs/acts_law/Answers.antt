use Rattle.slpf_rules_acts.proofs.Acts.{none_are_acts, acts_more}
use Rattle.slpf_rules_acts.proofs.acts_law.Goals as goal

pub returns : goal.returns
returns c = record { none = none_are_acts; one_more = acts_more }
