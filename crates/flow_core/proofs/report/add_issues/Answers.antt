use Rattle.std.proofs.Common.{◌++◌, List, length, refl}
use Rattle.std.proofs.lemmas.Option.{slice_get_read}
use Rattle.flow_core_rules.specs.declared.issues.Issue.{Issue}
use Rattle.flow_core_rules.specs.Lines.{issue_lines}
use Rattle.flow_core.proofs.ReportLemmas.{issue_more, issues_end}
use Rattle.flow_core.proofs.report.add_issues.Goals as goal

pub loop-number-preserved : goal.loop-number-preserved
loop-number-preserved c =
    let issues : List Issue = c.args.issues.now in
    issue_more issues c.loop-number.number c.index-issues-number.result c.loop-number.out.items c.add_issue.new.out.items (c.args.out.now.items ++ issue_lines 0 issues)
    (slice_get_read issues (length issues) c.loop-number.number c.index-issues-number.result refl c.loop-number-test.true c.index-issues-number.is) c.in_ok-add_issue.ensures c.loop-number.invariant

pub returns : goal.returns
returns c =
    let issues : List Issue = c.args.issues.now in
    issues_end issues c.loop-number.number c.loop-number.out.items (c.args.out.now.items ++ issue_lines 0 issues) c.loop-number-test.false c.loop-number.invariant
