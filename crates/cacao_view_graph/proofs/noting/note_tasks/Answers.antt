-- The tasks are noted as long as there is one with the next number.
use Rattle.std.proofs.Common.{◌++◌, List, length, refl, sym, ap, arith}
use Rattle.cacao_view_graph.specs.declared.note.Note.{Note}
use Rattle.cacao_view_log.proofs.TellLemmas.{task_there}
use Rattle.cacao_view_graph.specs.Notes.{task_notes}
use Rattle.cacao_view_graph.proofs.NoteLemmas.{task_step, tasks_noted, tasks_rest}
use Rattle.cacao_view_graph.proofs.noting.note_tasks.Goals as goal

pub loop-task-init : goal.loop-task-init
loop-task-init c = record { within = omega arith; lines = c.requires; noted = refl }

pub step_of-key-requires : goal.step_of-key-requires
step_of-key-requires c = task_there c.args.flow.now.seen.lists.tasks c.loop-task.task c.in-Some.stand (sym c.in-Some.ensures)

pub returns-in_default-clause-rest : goal.returns-in_default-clause-rest
returns-in_default-clause-rest c =
    let s = c.args.flow.now.seen in
    let all : List Note = c.args.notes.now.items ++ task_notes 0 s.lists.tasks in
    tasks_rest s c.loop-task.task c.loop-task.rest.now c.loop-task.notes.items all (sym c.in_default.ensures) c.loop-task.invariant

pub returns-in_default-clause-notes : goal.returns-in_default-clause-notes
returns-in_default-clause-notes c =
    let s = c.args.flow.now.seen in
    let all : List Note = c.args.notes.now.items ++ task_notes 0 s.lists.tasks in
    tasks_noted s c.loop-task.task c.loop-task.rest.now c.loop-task.notes.items all (sym c.in_default.ensures) c.loop-task.invariant

pub loop-task-preserved : goal.loop-task-preserved
loop-task-preserved c =
    let s = c.args.flow.now.seen in
    let all : List Note = c.args.notes.now.items ++ task_notes 0 s.lists.tasks in
    task_step s c.loop-task.task c.in-Some.stand _ c.loop-task.rest.now _ c.loop-task.notes.items _ all (sym c.in-Some.ensures)
    (ap length c.step_of-key.ensures) c.in_ok-rest.ensures.rest c.in_ok-rest.ensures.notes c.loop-task.invariant

pub returns-clause-rest : goal.returns-clause-rest
returns-clause-rest c = absurd (omega (arith, c.loop-task.invariant.within, c.loop-task-test.false, c.law.ensures.sizes.tasks))

pub returns-clause-notes : goal.returns-clause-notes
returns-clause-notes c = absurd (omega (arith, c.loop-task.invariant.within, c.loop-task-test.false, c.law.ensures.sizes.tasks))
