use Rattle.std.proofs.Common.{sym}
use Rattle.flow_core_plans.specs.Planned.{edits_of}
use Rattle.flow_core.proofs.HeldLemmas.{ready_held, on_ok}
use Rattle.flow_core.proofs.flow.Flow.ready.Goals as goal

pub returns-in-Some-clause-ok : goal.returns-in-Some-clause-ok
returns-in-Some-clause-ok c =
    let e = rw c.in-Some.is at c.in_ok-found.ensures.edits in
    on_ok c.hold.result
    (ready_held c.take_spare-spare.new.self c.hold.new.self c.args.item.now (edits_of c.in-Some.edits.items) c.moment_of.result (sym e) c.moment_of.ensures)
    c.hold.ensures.ok
