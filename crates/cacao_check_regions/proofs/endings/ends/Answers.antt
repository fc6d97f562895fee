use Rattle.std.proofs.Common.{length, refl}
use Rattle.std.proofs.lemmas.Option.{slice_get_read}
use Rattle.cacao_check_regions.proofs.EndLemmas.{EndsBelow-more, EndsBelow-all, EndsBelow-within}
use Rattle.cacao_check_regions.proofs.endings.ends.Goals as goal

pub loop-place-preserved : goal.loop-place-preserved
loop-place-preserved c =
    EndsBelow-more c.args.steps.now c.loop-place.place c.index-steps-place.result c.loop-place.places c.add_end.new.places
    (slice_get_read c.args.steps.now (length c.args.steps.now) c.loop-place.place c.index-steps-place.result refl c.loop-place-test.true c.index-steps-place.is) c.loop-place.invariant c.in_ok-add_end.ensures

pub returns-clause-within : goal.returns-clause-within
returns-clause-within c = EndsBelow-within c.args.steps.now c.loop-place.place c.loop-place.places c.loop-place.invariant

pub returns-clause-exact : goal.returns-clause-exact
returns-clause-exact c = EndsBelow-all c.args.steps.now c.loop-place.place c.loop-place.places c.loop-place-test.false c.loop-place.invariant
