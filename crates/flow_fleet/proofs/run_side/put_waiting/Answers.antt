use Rattle.std.proofs.Common.{◌≡◌, length, refl, ◌∙◌, ap, arith}
use Rattle.flow_engine_history.specs.HistoryView.{HistoryView}
use Rattle.flow_core_rules.specs.State.{Shown}
use Rattle.flow_world_steps.specs.Worlds.{rests}
use Rattle.flow_world_parts.proofs.EngineSide.{all_put, none_put}
use Rattle.flow_fleet.specs.Leads.{Below, same_turn}
use Rattle.flow_fleet.proofs.Places.{rest_same, rest_then}
use Rattle.flow_fleet.proofs.RunSteps.{below_kept, goes_refuses, goes_then, stays_at_rest}
use Rattle.flow_fleet.proofs.run_side.put_waiting.Goals as goal

pub loop-issue-init : goal.loop-issue-init
loop-issue-init g c = record {
  goes = stays_at_rest (Below c.args.place) c.args.place (g.R.Disk.view c.args.rack.now) c.args.engine.now;
  work = c.requires.work;
  put = λ lower it less. absurd (omega (arith, less));
  unput = λ other le. none_put c.args.engine.now c.requires.none other;
  history = refl;
  rest = rest_same c.args.place (g.R.Disk.view c.args.rack.now);
}

pub returns-in-Err-clause-did : goal.returns-in-Err-clause-did
returns-in-Err-clause-did g c =
    let so = g.R.Disk.view c.args.rack.now in
    let mid = g.R.Disk.view c.loop-issue.rack in
    goes_refuses (Below c.args.place) (Below c.args.place) c.args.place so mid c.args.engine.now c.loop-issue.engine rests rests
    (below_kept c.args.place so mid c.args.engine.now c.loop-issue.engine rests rests c.loop-issue.invariant.rest c.loop-issue.invariant.work) 0 same_turn c.loop-issue.invariant.goes
    c.in-Err.error (g.R.Disk.view c.put_first.new.rack) c.in-Err.ensures.did

pub loop-issue-preserved : goal.loop-issue-preserved
loop-issue-preserved g c =
    let so = g.R.Disk.view c.args.rack.now in
    let mid = g.R.Disk.view c.loop-issue.rack in
    let sn = g.R.Disk.view c.put_first.new.rack in
    record {
      goes = goes_then (Below c.args.place) (Below c.args.place) c.args.place so mid c.args.engine.now c.loop-issue.engine rests rests
          (below_kept c.args.place so mid c.args.engine.now c.loop-issue.engine rests rests c.loop-issue.invariant.rest c.loop-issue.invariant.work) 0 same_turn c.loop-issue.invariant.goes
          0 sn c.put_first.new.engine rests c.in-Ok.ensures.did;
      work = c.in-Ok.ensures.work;
      put = c.in-Ok.ensures.put;
      unput = λ other le. c.in-Ok.ensures.others other (λ e. absurd (omega (arith, le, e))) ∙ c.loop-issue.invariant.unput other (omega (arith, le));
      history = c.in-Ok.ensures.history ∙ c.loop-issue.invariant.history;
      rest = rest_then c.args.place so mid sn c.loop-issue.invariant.rest c.in-Ok.ensures.rest;
    }

pub returns-clause-put : goal.returns-clause-put
returns-clause-put g c =
    let at_end = c.loop-issue-test.false in
    let same : c.loop-issue.engine.history.seen ≡ c.args.engine.now.history.seen = ap (λ (h : HistoryView). h.seen) c.loop-issue.invariant.history in
    let many : length c.loop-issue.engine.history.seen.lists.issues ≡ length c.args.engine.now.history.seen.lists.issues = ap (λ (s : Shown). length s.lists.issues) same in
    let shown : length c.flow.result.now.seen.lists.issues ≡ length c.args.engine.now.history.seen.lists.issues = ap (λ (s : Shown). length s.lists.issues) c.flow.ensures.seen in
    all_put c.loop-issue.issue c.loop-issue.engine (omega (arith, at_end, many, shown, c.issues-issue-end.ensures)) c.loop-issue.invariant.put
