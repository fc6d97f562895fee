use Rattle.std.proofs.Common.{[], List, ap, length, map, subst, sym}
use Rattle.std.proofs.lemmas.Option.{none-some}
use Rattle.cacao_book.specs.Books.{step_of}
use Rattle.cacao_json.specs.Tree.{pair_data}
use Rattle.cacao_view_graph.specs.Pictures.{AreStepsMarked, IsMarked}
use Rattle.cacao_view_graph.specs.Placing.{AreDrawnOf, drawn_of}
use Rattle.cacao_view_graph.specs.declared.placed.Placed.{Placed}
use Rattle.cacao_view_graph.proofs.PlacingLemmas.{drawn_next, each_next, grown, made_twice, none_drawn}
use Rattle.cacao_view_graph.proofs.placing.placed_steps.Goals as goal

pub loop-place-init : goal.loop-place-init
loop-place-init c = record {
  count = ap length c.new-steps.ensures.items;
  drawn = subst (λ (l : List Placed). AreDrawnOf c.args.book.now [] (map drawn_of l)) (sym c.new-steps.ensures.items) (none_drawn c.args.book.now);
  marked = λ number all. subst (λ (l : List Placed). AreStepsMarked c.args.marks.now number (map drawn_of l)) (sym c.new-steps.ensures.items) (λ place step e. absurd (none-some step e));
}

pub placed_step-requires-clause-same : goal.placed_step-requires-clause-same
placed_step-requires-clause-same c = made_twice pair_data step_of c.args.pairs.now c.args.book.now.steps c.loop-place.place c.index-pairs-place.result c.requires.same c.loop-place-test.true c.index-pairs-place.is

pub placed_step-requires-clause-tallied : goal.placed_step-requires-clause-tallied
placed_step-requires-clause-tallied c = c.requires.tallied c.loop-place.place c.loop-place-test.true

pub loop-place-preserved : goal.loop-place-preserved
loop-place-preserved c = record {
  count = grown c.loop-place.steps.items c.push.new.self.items c.in_ok-step.step c.loop-place.place c.loop-place.invariant.count c.in_ok-push.ensures.items;
  drawn = drawn_next drawn_of c.args.book.now c.args.pairs.now c.loop-place.place c.index-pairs-place.result c.loop-place.steps.items c.push.new.self.items c.in_ok-step.step c.loop-place-test.true c.index-pairs-place.is c.in_ok-push.ensures.items
      c.in_ok-step.ensures.member c.in_ok-step.ensures.home c.loop-place.invariant.drawn;
  marked = λ number all. each_next (IsMarked c.args.marks.now number) drawn_of c.loop-place.place c.loop-place.steps.items c.push.new.self.items c.in_ok-step.step c.loop-place.invariant.count c.in_ok-push.ensures.items
      (c.in_ok-step.ensures.marked number (all c.loop-place.place c.loop-place-test.true)) (c.loop-place.invariant.marked number all);
}
