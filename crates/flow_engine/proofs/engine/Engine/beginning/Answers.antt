use Rattle.std.proofs.Common.{◌≡◌, ◌<◌, ◌^◌, ◌∙◌, ap, arith}
use Rattle.flow_engine.specs.EngineView.{EngineView}
use Rattle.flow_engine.proofs.ComingLemmas.{begin_made}
use Rattle.flow_engine.proofs.engine.Engine.beginning.Goals as goal

pub returns-clause-comes : goal.returns-clause-comes
returns-clause-comes c =
    let flow = c.flow-flow.result.now in
    let seen : flow.seen ≡ c.args.self.now.history.seen = c.flow-flow.ensures.seen ∙ ap (λ (v : EngineView). v.history.seen) c.self.view_is in
    let fits : c.run-run.result < 2 ^ 64 = omega arith in
    begin_made c.args.self.now.history flow c.in_ok-next.next c.args.moment c.run-run.result seen c.in_ok-next.ensures c.run-run.ensures fits c.stand.ensures c.requires.empty c.requires.in_time
