use Rattle.slpf_actuator_acts.proofs.Damages.{no_acts_where_damaged, one_damage}
use Rattle.slpf_actuator_acts.proofs.laws.damage_law.Goals as goal

pub returns : goal.returns
returns c = record { no_acts = no_acts_where_damaged; one_damage = one_damage }
