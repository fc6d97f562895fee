use Rattle.std.proofs.Common.{◌≡◌, subst}
use Rattle.flow_core_rules.specs.Moves.{asks}
use Rattle.flow_core_plans.specs.RunFacts.{shown_of}
use Rattle.flow_core.specs.Views.{View}
use Rattle.flow_core.proofs.TableReads.{asks_table}
use Rattle.flow_core.proofs.flow.Flow.asks.Goals as goal

pub returns : goal.returns
returns c =
    subst (λ (v : View). c.least_by.result ≡ asks v.seen) c.self.view_is
    (asks_table (shown_of c.self.inside.run) c.self.inside.run.tables c.least_by.result c.self.invariant.tables c.least_by.ensures.each)
