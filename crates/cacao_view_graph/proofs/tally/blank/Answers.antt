use Rattle.std.proofs.Common.{[], List, refl, sym, subst}
use Rattle.cacao_view_graph.specs.Tallies.{AreTallies}
use Rattle.cacao_view_graph.specs.declared.tally.Tally.{Tally}
use Rattle.cacao_view_graph.proofs.PlacingLemmas.{grown}
use Rattle.cacao_view_graph.proofs.TallyLemmas.{blank_more}
use Rattle.cacao_view_graph.proofs.tally.blank.Goals as goal

pub loop-preserved : goal.loop-preserved
loop-preserved c =
    let new : Tally = record { walks = 0; text = c.new.result } in
    record {
      count = grown c.loop.tallies.items c.push.new.self.items new c.loop.counter c.loop.invariant.count c.in_ok-push.ensures.items;
      each = λ book. subst (λ (l : List Tally). AreTallies book [] [] l) (sym c.in_ok-push.ensures.items) (blank_more c.loop.tallies.items new refl c.new.ensures.items c.loop.invariant.each book);
    }
