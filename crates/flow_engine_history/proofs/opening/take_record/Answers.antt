use Rattle.std.proofs.Common.{refl, subst}
use Rattle.flow_core.specs.TakenRecords.{RefusesRecord}
use Rattle.flow_core.specs.declared.flow_errors.FlowError.{FlowError}
use Rattle.flow_engine_history.proofs.opening.take_record.Goals as goal

pub returns-in-Err-Limit-clause-refused : goal.returns-in-Err-Limit-clause-refused
returns-in-Err-Limit-clause-refused c =
    let limit = subst (λ (e : FlowError). RefusesRecord c.args.flow.now c.args.item.now e) c.in-Err-Limit.field-0-is c.in-Err-Limit.ensures.refused in
    (refl, limit.1)
