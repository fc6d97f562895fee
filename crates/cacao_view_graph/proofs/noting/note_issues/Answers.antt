-- The issues are noted as long as one is left, and a step.
use Rattle.std.proofs.Common.{◌<◌, ◌≤◌, ◌++◌, List, length, refl, sym, arith}
use Rattle.cacao_view_graph.specs.declared.note.Note.{Note}
use Rattle.cacao_view_graph.specs.Notes.{issue_notes}
use Rattle.cacao_view_graph.proofs.NoteLemmas.{issue_step, issues_noted, spots_noted}
use Rattle.cacao_view_graph.proofs.noting.note_issues.Goals as goal

pub loop-issue-init : goal.loop-issue-init
loop-issue-init c = record { lines = c.requires; noted = refl }

pub returns-in_default : goal.returns-in_default
returns-in_default c =
    let s = c.args.flow.now.seen in
    let all : List Note = c.args.notes.now.items ++ issue_notes 0 c.args.sent.now s.lists.issues in
    spots_noted s c.args.sent.now c.loop-issue.issue c.loop-issue.rest.now c.loop-issue.notes.items all (sym c.in_default.ensures) c.loop-issue.invariant

pub loop-issue-preserved : goal.loop-issue-preserved
loop-issue-preserved c =
    let s = c.args.flow.now.seen in
    let all : List Note = c.args.notes.now.items ++ issue_notes 0 c.args.sent.now s.lists.issues in
    let lt : c.loop-issue.issue < length s.lists.issues = omega (arith, c.issues-issue-end.ensures, c.loop-issue-test.true) in
    issue_step s c.args.sent.now c.loop-issue.issue c.in-Some.spot c.loop-issue.rest.now _ c.loop-issue.notes.items _ all lt (sym c.in-Some.ensures)
    c.in_ok-rest.ensures.rest c.in_ok-rest.ensures.notes c.loop-issue.invariant

pub returns : goal.returns
returns c =
    let s = c.args.flow.now.seen in
    let all : List Note = c.args.notes.now.items ++ issue_notes 0 c.args.sent.now s.lists.issues in
    let past : length s.lists.issues ≤ c.loop-issue.issue = omega (arith, c.issues-issue-end.ensures, c.loop-issue-test.false) in
    issues_noted s c.args.sent.now c.loop-issue.issue c.loop-issue.rest.now c.loop-issue.notes.items all past c.loop-issue.invariant
