use Rattle.std.proofs.Common.{◌≡◌, Some, subst, rules}
use Rattle.run_records.specs.Reading.{record_of}
use Rattle.flow_core.specs.TakenRecords.{RefusesRecord}
use Rattle.flow_core.specs.declared.flow_errors.FlowError.{FlowError}
use Rattle.flow_engine_reports.proofs.replaying.take_next.Goals as goal

pub returns-in-Err-Limit-clause-refused : goal.returns-in-Err-Limit-clause-refused
returns-in-Err-Limit-clause-refused c =
    let v = c.args.flow.now in
    let r = c.in-Ok-Some.item in
    let reads : record_of c.args.entry.now ≡ Some r = search rules in
    let limit = subst (λ (e : FlowError). RefusesRecord v r e) c.in-Err-Limit.field-0-is c.in-Err-Limit.ensures.refused in
    (r, reads, limit.1)
