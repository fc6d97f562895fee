use Rattle.std.proofs.Common.{◌∙◌, ◌++◌, ℕ, Option, ap}
use Rattle.cacao_view_graph.specs.Courses.{spots}
use Rattle.cacao_view_graph.proofs.tracing.add_record.Goals as goal

pub returns : goal.returns
returns c = record {
  walked = c.in_ok-add_spot.ensures ∙ ap (λ (number : Option ℕ). c.args.course.now.walked.items ++ spots c.args.flow.now.seen number) c.walked_task.ensures;
  sent = c.in_ok-add_spot-2.ensures ∙ ap (λ (number : Option ℕ). c.args.course.now.sent.items ++ spots c.args.flow.now.seen number) c.sent_task.ensures;
}
