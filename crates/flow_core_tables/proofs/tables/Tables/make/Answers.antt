use Rattle.std.proofs.Common.{◌≡◌, ◌<◌, List, length, Some, ap, sym, subst, ◌∙◌, arith}
use Rattle.std.specs.Prelude.{IfSome, slice_get}
use Rattle.flow_core_rules.specs.declared.tasks.Task.{Task}
use Rattle.flow_core_rules.specs.Edits.{makes, shown_edited}
use Rattle.flow_core_tables.specs.declared.tables.Wait.{Wait}
use Rattle.flow_core_tables.specs.TableFacts.{lists_of}
use Rattle.flow_core_tables.specs.Waits.{one_more}
use Rattle.flow_core_tables.proofs.EntryLemmas.{changed_if}
use Rattle.flow_core_tables.proofs.TaskEdits.{make_fits}
use Rattle.flow_core_tables.proofs.TableLemmas.{tells_of, tables_of, make_tells}
use Rattle.flow_core_tables.proofs.tables.Tables.make.Goals as goal

pub expect-requires-clause-fits : goal.expect-requires-clause-fits
expect-requires-clause-fits c =
    let old = c.args.self.now in
    subst (λ (ws : List Wait). IfSome c.args.task.parent (λ p. (wait : Wait) → slice_get ws p ≡ Some wait → wait.open < 4294967295)) (sym c.add-2.ensures.items)
    (make_fits (lists_of old) c.args.task old.waits.items c.requires.tables.waits_len c.requires.tables.waits c.requires.fits c.requires.tasks)

pub returns-clause-tables : goal.returns-clause-tables
returns-clause-tables c =
    let old = c.args.self.now in
    let given = c.args.setup.now in
    let all : List Task = old.tasks.items in
    let number_is : c.len-number.result ≡ length all = omega (arith, old.tasks.ok.0) in
    tables_of given _ (shown_edited (makes c.args.task) (lists_of old)) _ (ap (λ (ts : List Task). record (lists_of old) { tasks = ts }) c.add.ensures.items)
    (make_tells given (lists_of old) c.args.task c.len-number.result _ _ _ _ _ _ _ _ _ (tells_of given (lists_of old) old c.requires.tables) c.requires.fits number_is
    (c.expect.ensures.waits ∙ ap (λ (ws : List Wait). changed_if c.args.task.parent one_more ws) c.add-2.ensures.items)
    c.expect.ensures.ready c.settle.ensures.ready c.settle.ensures.delays)
