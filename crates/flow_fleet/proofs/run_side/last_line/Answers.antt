use Rattle.flow_fleet.proofs.RunCalls.{numbered_line}
use Rattle.flow_fleet.proofs.run_side.last_line.Goals as goal

pub returns : goal.returns
returns c = numbered_line c.args.engine.now c.in_ok-line.line c.as_slice.result.now c.run.result c.flow.result.now.seen c.numbered.result c.requires c.in_ok-line.ensures c.as_slice.ensures
    c.flow.ensures.seen c.run.ensures c.numbered.ensures
