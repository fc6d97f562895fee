use Rattle.std.proofs.Common.{ap, subst}
use Rattle.flow_engine.specs.EngineCalls.{IsStanding}
use Rattle.flow_engine.specs.EngineView.{EngineView}
use Rattle.flow_engine.proofs.ComingLemmas.{standing}
use Rattle.flow_engine.proofs.engine.Engine.stand.Goals as goal

pub returns : goal.returns
returns c =
    let law = c.law-2.ensures in
    subst IsStanding (ap (λ (v : EngineView). v.history) c.self.view_is)
    (standing c.self.inside.history c.flow.result.now c.law.ensures c.flow.ensures.count c.flow.ensures.seen law.reached law.sizes law.setup)
