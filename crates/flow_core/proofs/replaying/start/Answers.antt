use Rattle.std.proofs.Common.{subst}
use Rattle.flow_core.specs.TakenRecords.{RefusesRecord}
use Rattle.flow_core.specs.declared.flow_errors.FlowError.{FlowError}
use Rattle.flow_core.proofs.TakenLemmas.{first_passes_none}
use Rattle.flow_core.proofs.replaying.start.Goals as goal

pub unreachable-requires : goal.unreachable-requires
unreachable-requires c =
    let v = c.args.flow.now in
    let limit = subst (λ (e : FlowError). RefusesRecord v c.args.first.now e) c.in-Err-Limit.field-0-is c.in-Err-Limit.ensures.refused in
    first_passes_none v c.args.first.now v.seen.given v.seen.run c.requires.count c.requires.blank limit.1
