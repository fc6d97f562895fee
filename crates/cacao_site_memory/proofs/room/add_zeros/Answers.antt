-- One zero more.
use Rattle.std.proofs.Common.{List, ℕ, ◌∷◌, [], ◌++◌, ◌∙◌, ap, arith}
use Rattle.cacao_site_memory.proofs.PageLemmas.{zeros-push}
use Rattle.cacao_site_memory.proofs.room.add_zeros.Goals as goal

pub loop-k-preserved : goal.loop-k-preserved
loop-k-preserved c = record {
  items = c.push_reserved.ensures.items ∙ ap (λ (l : List ℕ). l ++ 0 ∷ []) c.loop-k.invariant.items ∙ zeros-push c.args.bytes.now.items c.loop-k._k;
  len = omega arith;
  capacity = omega arith;
}
