use Rattle.std.proofs.Common.{◌≡◌, ℕ, true, false, List, Some, sym, ap, subst, ◌∙◌}
use Rattle.flow_laws.specs.Journals.{run_of}
use Rattle.flow_audit.specs.Parts.{HasIssue, HasTaken, IsFlowOf}
use Rattle.flow_audit.proofs.SentLemmas.{sent, issue_shown, run_is}
use Rattle.flow_audit.proofs.acting.is_sent.Goals as goal

pub returns-clause-sent : goal.returns-clause-sent
returns-clause-sent c = λ yes of_run.
    let records = c.args.run.now.file.records.items in
    let act = c.args.act.now in
    let v = c.in-Some.flow in
    let taken : HasTaken records v = subst (IsFlowOf records) c.in-Some.is c.requires.flow in
    let has : HasIssue v.seen act.issue c.args.agent act.command =
    subst (λ (b : List ℕ). HasIssue v.seen act.issue c.args.agent b) c.as_slice.ensures (c.has_issue.ensures.0 yes) in
    sent c.accepted_is_runnable.ensures records v act.issue c.args.agent act.command taken c.requires.agent has

pub returns-clause-unsent : goal.returns-clause-unsent
returns-clause-unsent c = λ no either.
    let records = c.args.run.now.file.records.items in
    let act = c.args.act.now in
    let v = c.in-Some.flow in
    let taken : HasTaken records v = subst (IsFlowOf records) c.in-Some.is c.requires.flow in
    let of_run : run_of records ≡ Some act.run = run_is records v taken ∙ ap (λ n. Some n) (sym c.run.ensures ∙ c.if-run-act.false) in
    let shown : HasIssue v.seen act.issue c.args.agent act.command =
    issue_shown c.accepted_is_runnable.ensures records v act.issue c.args.agent act.command taken (either of_run) in
    let yes : c.has_issue.result ≡ true =
    c.has_issue.ensures.1 (subst (λ (b : List ℕ). HasIssue v.seen act.issue c.args.agent b) (sym c.as_slice.ensures) shown) in
    let wrong : false ≡ true = sym no ∙ yes in
    cc
