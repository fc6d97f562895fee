use Rattle.std.proofs.Common.{[], List, sym, subst}
use Rattle.cacao_view_graph.specs.Tallies.{AreTallies}
use Rattle.cacao_view_graph.specs.declared.tally.Tally.{Tally}
use Rattle.cacao_view_graph.proofs.tally.tallied.Goals as goal

pub count_walks-requires : goal.count_walks-requires
count_walks-requires c = subst (λ (l : List Tally). AreTallies c.args.book [] [] l) (sym c.deref_mut.ensures.value) (c.in_ok-tallies.ensures.each c.args.book)
