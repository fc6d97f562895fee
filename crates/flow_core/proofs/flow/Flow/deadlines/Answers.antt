use Rattle.std.proofs.Common.{◌≡◌, subst}
use Rattle.base_dues.specs.Pairs.{rising}
use Rattle.flow_core_rules.specs.Moves.{deadlines}
use Rattle.flow_core_plans.specs.RunFacts.{shown_of}
use Rattle.flow_core.specs.Views.{View}
use Rattle.flow_core.proofs.TableReads.{deadline_table}
use Rattle.flow_core.proofs.flow.Flow.deadlines.Goals as goal

pub returns : goal.returns
returns c =
    subst (λ (v : View). c.self.inside.run.tables.deadlines.pairs ≡ rising (deadlines v.seen)) c.self.view_is
    (deadline_table (shown_of c.self.inside.run) c.self.inside.run.tables c.law.ensures.queue c.self.invariant.tables)
