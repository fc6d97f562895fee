use Rattle.flow_core_plans.specs.Planned.{edits_of}
use Rattle.flow_core.proofs.ComingLemmas.{taken_made}
use Rattle.flow_core.proofs.HeldLemmas.{ready_held}
use Rattle.flow_core.proofs.flow.Flow.ready_coming.Goals as goal

pub returns-clause-ready : goal.returns-clause-ready
returns-clause-ready c =
    let v = c.args.self.now in
    let made = c.in_ok-item.field-0 in
    let edits = edits_of made.edits.items in
    let takes = taken_made v c.args.moment c.args.step made.item edits c.in_ok-item.ensures.of.made c.in_ok-item.ensures.edits in
    ready_held v c.hold.new.self made.item edits c.moment_of-moment.result takes c.moment_of-moment.ensures c.in_ok-hold.ensures.ok
