use Rattle.std.proofs.Common.{ap, arith}
use Rattle.flow_core_tables.specs.OpenedView.{OpenedView}
use Rattle.flow_core_tables.proofs.OpenedLemmas.{count_is}
use Rattle.flow_core_tables.proofs.opened.Opened.reserve.Goals as goal

pub returns-then-room-self-clause-ok : goal.returns-then-room-self-clause-ok
returns-then-room-self-clause-ok c =
    omega (arith, count_is c.self.inside c.args.self.now c.self.view_is c.self.invariant, c.len-count.ensures, c.in-Some.ensures, c.if-room-self.true, ap (λ (w : OpenedView). w.room) c.self.view_is)

pub returns-clause-ok : goal.returns-clause-ok
returns-clause-ok c =
    omega (arith, count_is c.self.inside c.args.self.now c.self.view_is c.self.invariant, c.len-count.ensures, c.in-Some.ensures)
