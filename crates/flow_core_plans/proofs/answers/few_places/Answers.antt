use Rattle.flow_core_values.proofs.PlaceLemmas.{few_at}
use Rattle.flow_core_plans.proofs.answers.few_places.Goals as goal

pub returns-in-Some : goal.returns-in-Some
returns-in-Some c =
    few_at c.args.run.now.setup c.args.stand.task.book c.args.stand.task.step c.in-Some.book.now c.args.stand.step.now c.in-Some.ensures c.requires.step_is c.as_slice.ensures.limits
