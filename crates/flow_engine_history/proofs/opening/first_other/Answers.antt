use Rattle.std.proofs.Common.{◌≡◌, ◌≤◌, length, arith}
use Rattle.flow_engine_history.proofs.OpenLemmas.{same_texts}
use Rattle.flow_engine_history.proofs.opening.first_other.Goals as goal

pub returns-clause-none : goal.returns-clause-none
returns-clause-none c =
    let all : c.loop-index.index ≡ length c.args.held.now = omega arith in
    let few : length c.args.asked.now ≤ length c.args.held.now = omega arith in
    same_texts c.args.held.now c.args.asked.now c.loop-index.index all c.loop-index.invariant.same few
