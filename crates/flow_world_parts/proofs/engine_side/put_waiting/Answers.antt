use Rattle.std.proofs.Common.{◌≡◌, length, refl, ◌∙◌, ap, arith}
use Rattle.flow_world_steps.specs.HistoryView.{HistoryView}
use Rattle.flow_core_rules.specs.State.{Shown}
use Rattle.flow_world_steps.specs.Worlds.{rests}
use Rattle.flow_world_parts.specs.Leads.{AnyNotes}
use Rattle.flow_world_parts.proofs.EngineSide.{all_put, none_put}
use Rattle.flow_world_parts.proofs.EngineSteps.{goes_refuses, goes_then, stays_there}
use Rattle.flow_world_parts.proofs.engine_side.put_waiting.Goals as goal

pub loop-issue-init : goal.loop-issue-init
loop-issue-init g c = record {
  goes = stays_there AnyNotes (g.S.Disk.view c.args.site.now) c.args.engine.now rests;
  work = c.requires.work;
  put = λ lower it less. absurd (omega (arith, less));
  unput = λ other le. none_put c.args.engine.now c.requires.none other;
  history = refl;
  now = refl;
}

pub returns-in-Err-clause-did : goal.returns-in-Err-clause-did
returns-in-Err-clause-did g c =
    goes_refuses AnyNotes 0 c.in-Err.error (g.S.Disk.view c.args.site.now) (g.S.Disk.view c.loop-issue.site) (g.S.Disk.view c.put_first.new.site) c.args.engine.now c.loop-issue.engine rests rests
    c.loop-issue.invariant.goes c.in-Err.ensures.did

pub loop-issue-preserved : goal.loop-issue-preserved
loop-issue-preserved g c = record {
  goes = goes_then AnyNotes 0 0 (g.S.Disk.view c.args.site.now) (g.S.Disk.view c.loop-issue.site) (g.S.Disk.view c.put_first.new.site) c.args.engine.now c.loop-issue.engine c.put_first.new.engine rests rests rests
      c.loop-issue.invariant.goes c.in-Ok.ensures.did;
  work = c.in-Ok.ensures.work;
  put = c.in-Ok.ensures.put;
  unput = λ other le. c.in-Ok.ensures.others other (λ e. absurd (omega (arith, le, e))) ∙ c.loop-issue.invariant.unput other (omega (arith, le));
  history = c.in-Ok.ensures.history ∙ c.loop-issue.invariant.history;
  now = c.in-Ok.ensures.now ∙ c.loop-issue.invariant.now;
}

pub returns-clause-put : goal.returns-clause-put
returns-clause-put g c =
    let at_end = c.loop-issue-test.false in
    let same : c.loop-issue.engine.history.seen ≡ c.args.engine.now.history.seen = ap (λ (h : HistoryView). h.seen) c.loop-issue.invariant.history in
    let many : length c.loop-issue.engine.history.seen.lists.issues ≡ length c.args.engine.now.history.seen.lists.issues = ap (λ (s : Shown). length s.lists.issues) same in
    let shown : length c.flow.result.now.seen.lists.issues ≡ length c.args.engine.now.history.seen.lists.issues = ap (λ (s : Shown). length s.lists.issues) c.flow.ensures.seen in
    all_put c.loop-issue.issue c.loop-issue.engine (omega (arith, at_end, many, shown, c.issues-issue-end.ensures)) c.loop-issue.invariant.put
