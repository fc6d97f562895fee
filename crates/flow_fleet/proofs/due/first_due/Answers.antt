use Rattle.flow_fleet.specs.declared.due.FleetDue.TheVariants as kind
use Rattle.flow_fleet.proofs.DueLemmas.{exactly}
use Rattle.flow_fleet.proofs.due.first_due.Goals as goal

pub returns-in-Some : goal.returns-in-Some
returns-in-Some c = exactly c.args.engines.now c.args.turn c.args.now c.requires.turn (kind.Move c.in-Some.place)
    c.in-Some.ensures

pub returns-in-Some-first_overdue : goal.returns-in-Some-first_overdue
returns-in-Some-first_overdue c = exactly c.args.engines.now c.args.turn c.args.now c.requires.turn (kind.Expire c.in-Some-first_overdue.place)
    (record { idle = c.in_default.ensures; first = c.in-Some-first_overdue.ensures })

pub returns-in-Some-first_resend : goal.returns-in-Some-first_resend
returns-in-Some-first_resend c = exactly c.args.engines.now c.args.turn c.args.now c.requires.turn (kind.Resend c.in-Some-first_resend.place c.in-Some-first_resend.moment c.in-Some-first_resend.issue)
    (record { idle = c.in_default.ensures; on_time = c.in_default-first_overdue.ensures; first = c.in-Some-first_resend.ensures })

pub returns-in-Some-least_next : goal.returns-in-Some-least_next
returns-in-Some-least_next c = exactly c.args.engines.now c.args.turn c.args.now c.requires.turn (kind.Wait c.in-Some-least_next.moment)
    (record { up_to_date = record { idle = c.in_default.ensures; on_time = c.in_default-first_overdue.ensures; none = c.in_default-first_resend.ensures }; next = c.in-Some-least_next.ensures })

pub returns : goal.returns
returns c = exactly c.args.engines.now c.args.turn c.args.now c.requires.turn (kind.Ask c.in-Some-first_asked.number c.in-Some-first_asked.issue)
    (record { up_to_date = record { idle = c.in_default.ensures; on_time = c.in_default-first_overdue.ensures; none = c.in_default-first_resend.ensures }; nothing_due = c.in_default-least_next.ensures; first = c.in-Some-first_asked.ensures })

pub unreachable-requires : goal.unreachable-requires
unreachable-requires c = c.requires.never_stuck c.in_default.ensures c.in_default-least_next.ensures c.in-None.ensures
