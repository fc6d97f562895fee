use Rattle.test_weather_plays.proofs.TakenLemmas.{one_more}
use Rattle.test_weather_plays.proofs.replay.take_in.Goals as goal

pub returns : goal.returns
returns c = one_more c.args.flow.now c.apply.new.self c.args.item.now c.requires c.apply.ensures
