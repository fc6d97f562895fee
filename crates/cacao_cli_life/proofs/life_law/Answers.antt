use Rattle.cacao_cli_life.proofs.LifeLemmas.{each_beat_has_images, each_call_may_begin, each_life_agrees}
use Rattle.cacao_cli_life.proofs.life_law.Goals as goal

pub returns : goal.returns
returns c = record { agrees = each_life_agrees; may_begin = each_call_may_begin; has_images = each_beat_has_images }
