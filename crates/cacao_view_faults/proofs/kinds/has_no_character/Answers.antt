use Rattle.std.proofs.Common.{◌∙◌}
use Rattle.cacao_view_faults.proofs.ReadLemmas.{no_character_err, no_character_ok}
use Rattle.cacao_view_faults.proofs.kinds.has_no_character.Goals as goal

pub returns-in-Ok : goal.returns-in-Ok
returns-in-Ok c = no_character_ok c.args.bytes.now c.in-Ok.ensures.cases.1

pub returns-in-Err : goal.returns-in-Err
returns-in-Err c = no_character_err c.args.bytes.now c.valid_up_to.result c.in-Err.ensures.cases.0 (c.valid_up_to.ensures ∙ c.in-Err.ensures.valid_len)
