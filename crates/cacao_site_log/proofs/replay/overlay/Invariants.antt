use Rattle.cacao_site_log.proofs.Overlays.{IsOverlaid}
use Rattle.cacao_site_log.proofs.replay.overlay.Given as goal

abbrev pub invariant-loop-p : goal.invariant-loop-p
invariant-loop-p l = IsOverlaid l.place l.bytes l.at l.first l.p l.fn.into l.into
