use Rattle.std.proofs.Common.{ℕ, Err, ap, inl, subst}
use Rattle.flow_audit.specs.Audits.{IsVerdict, PassesTasksAt}
use Rattle.flow_audit.specs.Parts.{IsWithin, StopsAudit}
use Rattle.flow_audit.specs.declared.verdict.AuditError.TheVariants as refused
use Rattle.flow_audit.specs.declared.verdict.Stop.{Stop}
use Rattle.flow_audit.specs.declared.verdict.Verdict17.TheVariants as verdict
use Rattle.flow_audit.proofs.VerdictLemmas.{one_passing, one_verdict}
use Rattle.flow_audit.proofs.auditing.audit.Goals as goal

pub returns-in-Ok-clause-one : goal.returns-in-Ok-clause-one
returns-in-Ok-clause-one c = λ other is.
    one_verdict c.args.files.now (verdict.Yes c.in-Ok.field-0.records c.in-Ok.field-0.acts) other c.in-Ok.ensures.agree is

pub returns-in-Ok-clause-tasks_only : goal.returns-in-Ok-clause-tasks_only
returns-in-Ok-clause-tasks_only c = λ place p. absurd (c.in-Ok.ensures.within place p)

pub returns-in-Err-No-clause-one : goal.returns-in-Err-No-clause-one
returns-in-Err-No-clause-one c = λ other is.
    let files = c.args.files.now in
    let stops : IsVerdict files (verdict.No c.in-Err-No.file c.in-Err-No.place) × IsWithin files = subst (λ (s : Stop). StopsAudit files s) c.in-Err-No.field-0-is c.in-Err-No.ensures.stops in
    one_verdict files (verdict.No c.in-Err-No.file c.in-Err-No.place) other stops.0 is

pub returns-in-Err-No-clause-tasks_only : goal.returns-in-Err-No-clause-tasks_only
returns-in-Err-No-clause-tasks_only c = λ place p.
    let files = c.args.files.now in
    let stops : IsVerdict files (verdict.No c.in-Err-No.file c.in-Err-No.place) × IsWithin files = subst (λ (s : Stop). StopsAudit files s) c.in-Err-No.field-0-is c.in-Err-No.ensures.stops in
    absurd (stops.1 place p)

pub returns-in-Err-Tasks-clause-tasks_only : goal.returns-in-Err-Tasks-clause-tasks_only
returns-in-Err-Tasks-clause-tasks_only c = λ place p.
    let files = c.args.files.now in
    let passes : PassesTasksAt files c.in-Err-Tasks.place = subst (λ (s : Stop). StopsAudit files s) c.in-Err-Tasks.field-0-is c.in-Err-Tasks.ensures.stops in
    inl (ap (λ (n : ℕ). Err (refused.Tasks n)) (one_passing files c.in-Err-Tasks.place place passes p))
