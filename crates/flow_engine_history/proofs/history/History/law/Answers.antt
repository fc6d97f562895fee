use Rattle.std.proofs.Common.{subst}
use Rattle.flow_engine_history.specs.Histories.{IsHistory}
use Rattle.flow_engine_history.proofs.HistoryLemmas.{law_holds}
use Rattle.flow_engine_history.proofs.history.History.law.Goals as goal

pub returns : goal.returns
returns c = subst IsHistory c.self.view_is (law_holds c.self.inside c.self.invariant c.law.ensures.sizes c.law.ensures.setup c.count.ensures.fits)
