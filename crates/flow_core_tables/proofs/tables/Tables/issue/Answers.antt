use Rattle.std.proofs.Common.{◌≡◌, List, length, ap, arith}
use Rattle.flow_core_rules.specs.declared.issues.Issue.{Issue}
use Rattle.flow_core_rules.specs.Edits.{issues, shown_edited}
use Rattle.flow_core_tables.specs.TableFacts.{lists_of}
use Rattle.flow_core_tables.proofs.TableLemmas.{read_there, tells_of, tables_of, issue_tells}
use Rattle.flow_core_tables.proofs.tables.Tables.issue.Goals as goal

pub returns-clause-tables : goal.returns-clause-tables
returns-clause-tables c =
    let old = c.args.self.now in
    let given = c.args.setup.now in
    let all : List Issue = old.issues.items in
    let number_is : c.len-number.result ≡ length all = omega (arith, old.issues.ok.0) in
    tables_of given _ (shown_edited (issues c.args.issue) (lists_of old)) _ (ap (λ (is : List Issue). record (lists_of old) { issues = is }) c.add.ensures.items)
    (issue_tells given (lists_of old) c.args.issue c.index-task.result.now c.len-number.result _ _ _ _ _ _ _ (tells_of given (lists_of old) old c.requires.tables) c.requires.fits number_is
    (read_there (lists_of old).tasks (c.args.issue).task c.index-task.result.now (c.requires.fits).task_is c.index-task.ensures) c.watch.ensures.deadlines c.watch.ensures.questions)
