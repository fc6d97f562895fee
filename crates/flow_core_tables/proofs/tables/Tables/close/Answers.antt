use Rattle.std.proofs.Common.{List, ap}
use Rattle.flow_core_rules.specs.declared.issues.Issue.{Issue}
use Rattle.flow_core_rules.specs.Edits.{closed, closes, shown_edited}
use Rattle.flow_core_tables.specs.TableFacts.{lists_of}
use Rattle.flow_core_tables.proofs.TableLemmas.{changed_is_set, tells_of, tables_of, close_tells}
use Rattle.flow_core_tables.proofs.tables.Tables.close.Goals as goal

pub returns-clause-lists : goal.returns-clause-lists
returns-clause-lists c =
    let issues : List Issue = c.args.self.now.issues.items in
    ap (λ (all : List Issue). record (lists_of c.args.self.now) { issues = all }) (changed_is_set (closed c.args.end) issues c.args.n c.index_mut.result.now c.requires.within c.index_mut.ensures.value)

pub returns-clause-tables : goal.returns-clause-tables
returns-clause-tables c = λ given h.
    let old = c.args.self.now in
    tables_of given _ (shown_edited (closes c.args.n c.args.end) (lists_of old)) _ (returns-clause-lists c)
    (close_tells given (lists_of old) c.args.n c.args.end _ _ _ _ _ _ _ (tells_of given (lists_of old) old h) c.requires.within c.requires.over c.remove.ensures.each c.remove-2.ensures.each)
