use Rattle.std.proofs.Common.{◌∙◌, [], take}
use Rattle.cacao_view_graph.proofs.TallyLemmas.{few, next_walk, short}
use Rattle.cacao_view_graph.proofs.tally.count_walks.Goals as goal

pub count_walk-requires : goal.count_walk-requires
count_walk-requires c =
    few c.args.book (take c.loop-place.place c.args.walked.now) [] c.loop-place.tallies c.walk_at-spot.result.step
    (short c.args.walked.now c.loop-place.place c.loop-place-test.true c.walk_at-spot.ensures.few) c.loop-place.invariant.each

pub loop-place-preserved : goal.loop-place-preserved
loop-place-preserved c = record {
  count = c.count_walk.ensures.count ∙ c.loop-place.invariant.count;
  each = next_walk c.args.book c.args.walked.now c.loop-place.place c.walk_at-spot.result c.count_walk.new.tallies c.loop-place-test.true c.walk_at-spot.ensures.value
      (c.count_walk.ensures.each (take c.loop-place.place c.args.walked.now) [] c.loop-place.invariant.each);
}
