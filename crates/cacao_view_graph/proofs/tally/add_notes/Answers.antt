use Rattle.std.proofs.Common.{◌∙◌, take}
use Rattle.cacao_view_graph.proofs.TallyLemmas.{next_note}
use Rattle.cacao_view_graph.proofs.tally.add_notes.Goals as goal

pub loop-place-preserved : goal.loop-place-preserved
loop-place-preserved c = record {
  count = c.in_ok-add_note.ensures.count ∙ c.loop-place.invariant.count;
  each = next_note c.args.book c.args.walked.now c.args.notes.now c.loop-place.place c.index-notes-place.result c.add_note.new.tallies c.loop-place-test.true c.index-notes-place.is
      (c.in_ok-add_note.ensures.each c.args.walked.now (take c.loop-place.place c.args.notes.now) c.loop-place.invariant.each);
}
