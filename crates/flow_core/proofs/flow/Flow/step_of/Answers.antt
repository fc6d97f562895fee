use Rattle.std.proofs.Common.{◌<◌, List, length, refl, ap, sym, subst, ◌∙◌}
use Rattle.std.proofs.lemmas.Option.{slice_get_read}
use Rattle.flow_core_rules.specs.declared.tasks.Task.{Task}
use Rattle.flow_core_rules.specs.Lines.{key_of}
use Rattle.flow_core.specs.Views.{View}
use Rattle.flow_core.proofs.flow.Flow.step_of.Goals as goal

pub returns : goal.returns
returns c =
    let tasks : List Task = c.self.inside.run.tables.tasks.items in
    let less : c.args.task < length tasks = subst (λ (v : View). c.args.task < length v.seen.lists.tasks) (sym c.self.view_is) c.requires in
    c.key_of.ensures c.args.task (slice_get_read tasks (length tasks) c.args.task c.index-found.result.now refl less c.index-found.ensures)
    ∙ ap (λ (v : View). key_of v.seen c.args.task) c.self.view_is
