use Rattle.std.proofs.Common.{sym, ap, ◌∙◌}
use Rattle.std.proofs.lemmas.Option.{same_Some}
use Rattle.run_records.specs.Reading.{record_of, act_of}
use Rattle.run_records.proofs.ReadLemmas.{record_again, act_again}
use Rattle.run_records.proofs.laws.one_value_a_layout.Goals as goal

pub returns-clause-records : goal.returns-clause-records
returns-clause-records c = λ r s r_fits s_fits same. same_Some r s (sym (record_again r r_fits) ∙ ap record_of same ∙ record_again s s_fits)

pub returns-clause-acts : goal.returns-clause-acts
returns-clause-acts c = λ a b a_fits b_fits same. same_Some a b (sym (act_again a a_fits) ∙ ap act_of same ∙ act_again b b_fits)
