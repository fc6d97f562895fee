-- The first lines, and one more.
use Rattle.std.proofs.Common.{ℕ, List, [], ◌∷◌, ◌++◌, ◌∙◌, ap, arith}
use Rattle.cacao_site_log.proofs.LineLemmas.{line-next}
use Rattle.cacao_site_log.proofs.call_log.CallLog.restart.Goals as goal

pub loop-number-preserved : goal.loop-number-preserved
loop-number-preserved c = record {
  calls = c.say.ensures.calls ∙ c.make_room.ensures.calls ∙ c.loop-number.invariant.calls;
  lines =
      c.say.ensures.lines
      ∙ ap (λ (l : List (ℕ × List ℕ)). l ++ (c.beat.result, c.line-said.result.now) ∷ []) (c.make_room.ensures.lines ∙ c.loop-number.invariant.lines)
      ∙ line-next c.args.self.now.lines c.loop-number.number c.beat.result c.line-said.result.now (omega arith) c.beat.ensures c.line-said.ensures;
  most = c.say.ensures.most ∙ c.make_room.ensures.most ∙ c.loop-number.invariant.most;
}
