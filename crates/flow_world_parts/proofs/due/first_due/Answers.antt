use Rattle.std.proofs.Common.{◌∙◌, ap, sym}
use Rattle.flow_core_rules.specs.Moves.{asks, due}
use Rattle.flow_core_rules.specs.State.{Shown}
use Rattle.flow_world_parts.specs.declared.due.Due.TheVariants as kind
use Rattle.flow_world_parts.proofs.DueSteps.{exactly, to_ask, to_expire, to_move, to_resend, to_tell, to_upgrade, to_wait}
use Rattle.flow_world_parts.proofs.WaitSteps.{never_stuck}
use Rattle.flow_world_parts.proofs.due.first_due.Goals as goal

pub returns-then-has_move : goal.returns-then-has_move
returns-then-has_move c = λ site sound work now. exactly c.args.answers.now site c.args.engine.now kind.Move
    (to_move c.args.answers.now site c.args.engine.now c.args.now sound work now (c.has_move.ensures.has c.if-has_move.true))

pub returns-then-is_upgraded : goal.returns-then-is_upgraded
returns-then-is_upgraded c = λ site sound work now. exactly c.args.answers.now site c.args.engine.now (kind.Tell c.in-Some.issue)
    (to_tell c.args.answers.now site c.args.engine.now c.args.now sound work now (c.has_move.ensures.none c.if-has_move.false) c.in-Some.issue c.in-Some.ensures
    (sym (ap (λ (s : Shown). s.lists.is_upgraded) c.flow-flow.ensures.seen) ∙ sym c.is_upgraded.ensures ∙ c.if-is_upgraded.true))

pub returns-in-Some : goal.returns-in-Some
returns-in-Some c = λ site sound work now. exactly c.args.answers.now site c.args.engine.now kind.Upgrade
    (to_upgrade c.args.answers.now site c.args.engine.now c.args.now sound work now (c.has_move.ensures.none c.if-has_move.false) c.in-Some.issue c.in-Some.ensures
    (sym (ap (λ (s : Shown). s.lists.is_upgraded) c.flow-flow.ensures.seen) ∙ sym c.is_upgraded.ensures ∙ c.if-is_upgraded.false))

pub returns-in-Some-overdue : goal.returns-in-Some-overdue
returns-in-Some-overdue c = λ site sound work now. exactly c.args.answers.now site c.args.engine.now (kind.Expire c.in-Some-overdue.issue)
    (to_expire c.args.answers.now site c.args.engine.now c.args.now sound work now (c.has_move.ensures.none c.if-has_move.false) c.in_default.ensures c.in-Some-overdue.issue c.in-Some-overdue.ensures.least)

pub returns-in-Some-come : goal.returns-in-Some-come
returns-in-Some-come c = λ site sound work now. exactly c.args.answers.now site c.args.engine.now (kind.Resend c.in-Some-come.issue)
    (to_resend c.args.answers.now site c.args.engine.now c.args.now sound work now (c.has_move.ensures.none c.if-has_move.false) c.in_default.ensures c.in_default-overdue.ensures.least c.next_put-resend.result c.next_put-resend.ensures
    c.in-Some-come.field-0-0 c.in-Some-come.issue c.in-Some-come.ensures.0 c.in-Some-come.ensures.1)

pub returns-in-Some-due : goal.returns-in-Some-due
returns-in-Some-due c = λ site sound work now. exactly c.args.answers.now site c.args.engine.now (kind.Wait c.soonest-moment.result)
    (to_wait c.args.answers.now site c.args.engine.now c.args.now sound work now (c.has_move.ensures.none c.if-has_move.false) c.in_default.ensures c.in_default-overdue.ensures.least c.next_put-resend.result c.next_put-resend.ensures c.in_default-come.ensures
    c.in-Some-due.due c.soonest-moment.result (sym (ap due c.flow-flow.ensures.seen) ∙ sym c.due.ensures.due ∙ c.in-Some-due.is) c.soonest-moment.ensures)

pub returns : goal.returns
returns c = λ site sound work now. exactly c.args.answers.now site c.args.engine.now (kind.Ask c.in-Some-asks.issue)
    (to_ask c.args.answers.now site c.args.engine.now c.args.now sound work now (c.has_move.ensures.none c.if-has_move.false) c.in_default.ensures c.in_default-overdue.ensures.least c.next_put-resend.result c.next_put-resend.ensures c.in_default-come.ensures c.in-Some-asks.issue
    (sym (ap due c.flow-flow.ensures.seen) ∙ sym c.due.ensures.due ∙ c.in_default-due.is) (sym (ap asks c.flow-flow.ensures.seen) ∙ sym c.asks.ensures ∙ c.in-Some-asks.is))

pub unreachable-requires : goal.unreachable-requires
unreachable-requires c =
    never_stuck c.args.engine.now c.args.now c.flow-flow.result.now.seen c.flow-flow.result.now.count c.requires.begun c.requires.goes_on c.requires.in_time (c.has_move.ensures.none c.if-has_move.false)
    c.flow-flow.ensures.seen c.flow-flow.ensures.count c.due.ensures.never_stuck (sym (ap due c.flow-flow.ensures.seen) ∙ sym c.due.ensures.due ∙ c.in_default-due.is) (sym (ap asks c.flow-flow.ensures.seen) ∙ sym c.asks.ensures ∙ c.in-None.is)
