use Rattle.std.proofs.Common.{subst}
use Rattle.flow_core.specs.TakenRecords.{RefusesRecord}
use Rattle.flow_core.specs.declared.flow_errors.FlowError.{FlowError}
use Rattle.cacao_view_log.proofs.telling.take.Goals as goal

pub returns-in-Err-Limit-clause-refused : goal.returns-in-Err-Limit-clause-refused
returns-in-Err-Limit-clause-refused c =
    let limit = subst (λ (e : FlowError). RefusesRecord c.args.flow.now c.args.item.now e) c.in-Err-Limit.field-0-is c.in-Err-Limit.ensures.refused in
    limit.1
