use Rattle.std.proofs.Common.{◌≡◌, subst}
use Rattle.base_dues.specs.Pairs.{rising}
use Rattle.flow_core_rules.specs.Moves.{ready_set}
use Rattle.flow_core_plans.specs.RunFacts.{shown_of}
use Rattle.flow_core.specs.Views.{View}
use Rattle.flow_core.proofs.TableReads.{ready_table}
use Rattle.flow_core.proofs.flow.Flow.ready_set.Goals as goal

pub returns : goal.returns
returns c =
    subst (λ (v : View). c.self.inside.run.tables.ready.pairs ≡ rising (ready_set v.seen)) c.self.view_is
    (ready_table (shown_of c.self.inside.run) c.self.inside.run.tables c.law.ensures.queue c.self.invariant.tables)
