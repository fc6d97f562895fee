-- A task that is there stands at a step; of another no step has a key.
use Rattle.std.proofs.Common.{sym}
use Rattle.cacao_view_log.proofs.TellLemmas.{no_key, task_there}
use Rattle.cacao_view_log.proofs.telling.key_at.Goals as goal

pub step_of-requires : goal.step_of-requires
step_of-requires c = task_there c.args.flow.now.seen.lists.tasks c.args.task c.in-Some.field-0 (sym c.in-Some.ensures)

pub returns-in-None : goal.returns-in-None
returns-in-None c = no_key c.args.flow.now.seen c.args.task (sym c.in-None.ensures)
